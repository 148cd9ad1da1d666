-- A line's fields, over lists of bytes. Assumes nothing.
use Rattle.std.specs.Prelude.{Bool, true, cond, ◌&&◌, ◌||◌, List, [], ◌∷◌, ◌++◌, ℕ, ◌+◌, ◌-◌, ◌*◌, eqb, leb, ltb}

-- "A CR counts as a blank": space, tab, CR
unfoldable pub blank : ℕ → Bool
blank b = eqb b 32 || (eqb b 9 || eqb b 13)

-- a field that has ended, before those after it; blanks alone make none
abbrev pub flush : List ℕ → List (List ℕ) → List (List ℕ)
flush [] rest = rest
flush (b ∷ bs) rest = (b ∷ bs) ∷ rest

-- "Fields are parted by runs of blanks (space, tab, CR); blanks at the ends are let go." The first argument is the field that runs.
unfoldable pub fields_from : List ℕ → List ℕ → List (List ℕ)
fields_from run [] = flush run []
fields_from run (b ∷ bs) = cond (blank b) (flush run (fields_from [] bs)) (fields_from (run ++ b ∷ []) bs)

abbrev pub fields_of : List ℕ → List (List ℕ)
fields_of bs = fields_from [] bs

-- what a digit counts, in either case; 16 for a byte that is none
unfoldable pub digit_of : ℕ → ℕ
digit_of b =
    cond (leb 48 b && leb b 57) (b - 48)
    (cond (leb 65 b && leb b 70) (b - 55)
    (cond (leb 97 b && leb b 102) (b - 87) 16))

-- every byte is a digit in the base
abbrev pub digits_only : ℕ → List ℕ → Bool
digits_only base [] = true
digits_only base (b ∷ bs) = ltb (digit_of b) base && digits_only base bs

-- the number that digits write after n
abbrev pub number_from : ℕ → ℕ → List ℕ → ℕ
number_from base n [] = n
number_from base n (b ∷ bs) = number_from base (n * base + digit_of b) bs

-- a field's bytes as one number: each a digit in base 256, after a leading 1, so that no two fields have the same
abbrev pub packed_from : ℕ → List ℕ → ℕ
packed_from n [] = n
packed_from n (b ∷ bs) = packed_from (n * 256 + b) bs

abbrev pub packed : List ℕ → ℕ
packed bs = packed_from 1 bs
