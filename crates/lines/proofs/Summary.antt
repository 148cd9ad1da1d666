-- What is kept of a line that is read byte by byte is what its bytes say: `summary`. Assumes nothing.
use mathlib.Core.Path.{◌≡◌, refl, sym, ap, ◌∙◌}
use mathlib.Core.Bool.{Bool, true, false, cond, ◌&&◌, ◌||◌, and-true, and_assoc, or-false}
use mathlib.Core.List.{List, [], ◌∷◌, ◌++◌, map, map-append, append_assoc, append-nil}
use Prim.Native.Nat.{ℕ, zero, suc, ◌+◌, ◌*◌, min}
use native.Mathlib.Omega.{arith}
use lib.Dec.{eqb, ltb, eqb-suc-zero}
use lib.ListN.{length, drop, set, length-append}
use borrow.Author.Tests.{ne_eqb}
use Rattle.lines.specs.Fields.{blank, flush, fields_from, digit_of, digits_only, number_from, packed_from}
use Rattle.lines.specs.Line.{length_limit, word_limit, value_limit, count_limit, field_of, none_of, more_of, is_hex, kept, first_fields, every, line_with, summary_of, fresh_of, joined_of, ended_of, begun_of, grown_of, feed_of, fed_of}
use Rattle.lines.specs.declared.Field.{Field}
use Rattle.lines.specs.declared.Line.{Line}
use Rattle.lines.proofs.Laws.{limited, ended_same, ended_joined}

-- ---- a field with one byte more

digits_snoc : (base : ℕ) (bs : List ℕ) (b : ℕ) → digits_only base (bs ++ b ∷ []) ≡ (digits_only base bs && ltb (digit_of b) base)
digits_snoc base [] b = and-true (ltb (digit_of b) base)
digits_snoc base (c ∷ bs) b = rw (digits_snoc base bs b) (sym (and_assoc (ltb (digit_of c) base) (digits_only base bs) (ltb (digit_of b) base)))

number_snoc : (base n : ℕ) (bs : List ℕ) (b : ℕ) → number_from base n (bs ++ b ∷ []) ≡ number_from base n bs * base + digit_of b
number_snoc base n [] b = refl
number_snoc base n (c ∷ bs) b = number_snoc base (n * base + digit_of c) bs b

packed_snoc : (n : ℕ) (bs : List ℕ) (b : ℕ) → packed_from n (bs ++ b ∷ []) ≡ packed_from n bs * 256 + b
packed_snoc n [] b = refl
packed_snoc n (c ∷ bs) b = packed_snoc (n * 256 + c) bs b

field_none : field_of [] ≡ none_of
unfolding field_of none_of
field_none = refl

one_more : (n m : ℕ) → min (n + 1) m ≡ min (min n m + 1) m
one_more n m = omega arith

field_more : (bs : List ℕ) (b : ℕ) → field_of (bs ++ b ∷ []) ≡ more_of (field_of bs) b
unfolding field_of more_of
field_more bs b =
    rw (
      length-append,
      one_more (length bs) length_limit,
      packed_snoc 1 bs b,
      digits_snoc 16 bs b,
      digits_snoc 10 bs b,
      number_snoc 16 0 bs b,
      number_snoc 10 0 bs b,
      ← limited (packed_from 1 bs) 256 b word_limit (omega arith),
      ← limited (number_from 16 0 bs) 16 (digit_of b) value_limit (omega arith),
      ← limited (number_from 10 0 bs) 10 (digit_of b) count_limit (omega arith),
    )

-- ---- one field more

first_snoc : (n : ℕ) (fs : List Field) (f : Field) → set (first_fields n fs) (min (length fs) n) f ≡ first_fields n (fs ++ f ∷ [])
first_snoc zero fs f = refl
first_snoc (suc n) [] f = let e : min 0 (suc n) ≡ 0 = omega arith in rw e
first_snoc (suc n) (g ∷ fs) f = let e : min (suc (length fs)) (suc n) ≡ suc (min (length fs) n) = omega arith in rw e (ap (λ (l : List Field). g ∷ l) (first_snoc n fs f))

every_snoc : (p : Field → Bool) (fs : List Field) (f : Field) → (every p fs && p f) ≡ every p (fs ++ f ∷ [])
every_snoc p [] f = sym (and-true (p f))
every_snoc p (g ∷ fs) f = and_assoc (p g) (every p fs) (p f) ∙ ap (λ (x : Bool). p g && x) (every_snoc p fs f)

rest_snoc : (p : Field → Bool) (fs : List Field) (f : Field) → (every p (drop 1 fs) && (eqb (min (length fs) kept) 0 || p f)) ≡ every p (drop 1 (fs ++ f ∷ []))
rest_snoc p [] f = refl
rest_snoc p (g ∷ fs) f = rw (ne_eqb (min (suc (length fs)) kept) 0 (λ e. omega (arith, e))) (every_snoc p fs f)

line_joined : (g c : Bool) (fs : List Field) (f : Field) → joined_of (line_with g c fs f) ≡ line_with g c (fs ++ f ∷ []) none_of
unfolding joined_of
line_joined g c fs f = rw (first_snoc kept fs f, rest_snoc (is_hex 1 4) fs f, length-append, one_more (length fs) kept)

-- ---- a line in which the fields fs have ended and run runs

abbrev line_at : Bool → List (List ℕ) → List ℕ → Line
line_at c fs run = line_with true c (map field_of fs) (field_of run)

-- a field that has begun is told from none by its length
nothing_runs : (field_of []).length ≡ 0
unfolding field_of
nothing_runs = refl

something_runs : (b : ℕ) (bs : List ℕ) → (field_of (b ∷ bs)).length ≡ 0 → ⊥
unfolding field_of
something_runs b bs e = omega (arith, e)

at_end : (c : Bool) (fs : List (List ℕ)) (run : List ℕ) → ended_of (line_at c fs run) ≡ line_at c (fs ++ flush run []) []
at_end c fs [] = sym (ended_same (line_at c fs []) nothing_runs) ∙ rw (append-nil fs)
at_end c fs (b ∷ bs) =
    sym (ended_joined (line_at c fs (b ∷ bs)) (something_runs b bs) refl) ∙ line_joined true c (map field_of fs) (field_of (b ∷ bs)) ∙ rw (map-append field_of fs ((b ∷ bs) ∷ []), field_none)

begun_before : (c : Bool) (fs : List (List ℕ)) (run : List ℕ) (b : ℕ) → begun_of (line_at c fs run) b ≡ line_at c fs run
unfolding begun_of
begun_before c fs run b = rw (or-false c)

flushed : (run : List ℕ) (fs : List (List ℕ)) → flush run fs ≡ flush run [] ++ fs
flushed [] fs = refl
flushed (b ∷ bs) fs = refl

fed : (bs : List ℕ) (c : Bool) (fs : List (List ℕ)) (run : List ℕ) → ended_of (fed_of (line_at c fs run) bs) ≡ line_at c (fs ++ fields_from run bs) []
unfolding fields_from feed_of grown_of
fed [] c fs run = at_end c fs run
fed (b ∷ bs) c fs run = by (blank b) refl (fed bs c (fs ++ flush run []) []) (fed bs c fs (run ++ b ∷ []))
  where
    by : (x : Bool) → blank b ≡ x → ended_of (fed_of (line_at c (fs ++ flush run []) []) bs) ≡ line_at c (fs ++ flush run [] ++ fields_from [] bs) []
        → ended_of (fed_of (line_at c fs (run ++ b ∷ [])) bs) ≡ line_at c (fs ++ fields_from (run ++ b ∷ []) bs) []
        → ended_of (fed_of (feed_of (line_at c fs run) b) bs) ≡ line_at c (fs ++ cond (blank b) (flush run (fields_from [] bs)) (fields_from (run ++ b ∷ []) bs)) []
    by true e p q = rw (e, begun_before c fs run b, at_end c fs run, flushed run (fields_from [] bs), ← append_assoc) p
    by false e p q = rw (e, begun_before c fs run b, ← field_more run b) q

-- ---- from the first byte on

begun_first : (b : ℕ) → begun_of fresh_of b ≡ begun_of (line_at (eqb b 35) [] []) b
unfolding begun_of fresh_of
begun_first b = rw (field_none, or-false (eqb b 35))

feed_first : (b : ℕ) → feed_of fresh_of b ≡ feed_of (line_at (eqb b 35) [] []) b
unfolding feed_of
feed_first b = ap (λ (l : Line). cond (blank b) (ended_of l) (grown_of l b)) (begun_first b)

fresh_empty : fresh_of ≡ summary_of []
unfolding fresh_of summary_of fields_from
fresh_empty = refl

fresh_runs_none : fresh_of.running.length ≡ 0
unfolding fresh_of none_of
fresh_runs_none = refl

-- "A line is what stands before LF": what its bytes leave, once it has ended, is its summary
pub summary : (bs : List ℕ) → ended_of (fed_of fresh_of bs) ≡ summary_of bs
unfolding summary_of
summary [] = sym (ended_same fresh_of fresh_runs_none) ∙ fresh_empty
summary (b ∷ bs) =
    ap (λ (l : Line). ended_of (fed_of l bs)) (feed_first b)
    ∙ fed (b ∷ bs) (eqb b 35) [] []
    ∙ rw (field_none, eqb-suc-zero)
