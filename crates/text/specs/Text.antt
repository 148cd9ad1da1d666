-- Text put into lent bytes, and numbers as text. Assumes nothing.
use Rattle.std.specs.Prelude.{◌≡◌, Bool, cond, List, [], ◌∷◌, ℕ, zero, suc, ◌+◌, ◌/◌, ◌%◌, ◌^◌, eqb, ltb, length, set, ℤ, pos, negsuc}

-- lent bytes, of which those before a place are written
pub record Page : Type 0 where
  pub bytes : List ℕ
  pub place : ℕ

abbrev pub page : List ℕ → ℕ → Page
page bytes place = record { bytes = bytes; place = place }

-- a byte at the place, and the next place; a byte that finds no room is dropped
unfoldable pub put_of : Page → ℕ → Page
put_of p b = cond (ltb p.place (length p.bytes)) (page (set p.bytes p.place b) (p.place + 1)) p

abbrev pub printed_of : Page → List ℕ → Page
printed_of p [] = p
printed_of p (b ∷ bs) = printed_of (put_of p b) bs

-- the text was put into the bytes at the place
pub record Prints (text bytes : List ℕ) (place : ℕ) (bytes' : List ℕ) (place' : ℕ) : Type 0 where
  pub is : printed_of (page bytes place) text ≡ page bytes' place'

-- ---- numbers as text

-- "hex in upper case": 0 to 9, then A to F
unfoldable pub glyph_of : ℕ → ℕ
glyph_of d = cond (ltb d 10) (48 + d) (55 + d)

-- the last k digits of n, the first of them first
unfoldable pub digits_of : ℕ → ℕ → ℕ → List ℕ
digits_of base n zero = []
digits_of base n (suc k) = glyph_of (n / base ^ k % base) ∷ digits_of base n k

abbrev pub hex_text : ℕ → ℕ → List ℕ
hex_text n k = digits_of 16 n k

-- without the zeros at the front; the last digit stays, whatever it is
unfoldable pub trimmed : List ℕ → List ℕ
trimmed [] = []
trimmed (d ∷ []) = d ∷ []
trimmed (d ∷ e ∷ ds) = cond (eqb d 48) (trimmed (e ∷ ds)) (d ∷ e ∷ ds)

-- a number of 64 bits has at most twenty digits
unfoldable pub decimal_text : ℕ → List ℕ
decimal_text n = trimmed (digits_of 10 n 20)

unfoldable pub signed_text : ℤ → List ℕ
signed_text (pos n) = decimal_text n
signed_text (negsuc n) = 45 ∷ decimal_text (suc n)

-- a bool as a digit
abbrev pub flag_text : Bool → List ℕ
flag_text b = cond b (49 ∷ []) (48 ∷ [])
