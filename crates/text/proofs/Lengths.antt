-- How long a number's text is at most. Assumes nothing.
use mathlib.Core.Path.{◌≡◌, refl, ap}
use mathlib.Core.Bool.{Bool, true, false, cond}
use mathlib.Core.List.{List, [], ◌∷◌}
use Prim.Native.Nat.{ℕ, zero, suc, ◌≤◌}
use native.Mathlib.Omega.{arith}
use lib.Dec.{eqb}
use lib.ListN.{length}
use lib.IntN.{ℤ, pos, negsuc}
use Rattle.text.specs.Text.{digits_of, trimmed, decimal_text, signed_text, flag_text}

pub digits_length : (base n k : ℕ) → length (digits_of base n k) ≡ k
unfolding digits_of
digits_length base n zero = refl
digits_length base n (suc k) = ap suc (digits_length base n k)

trimmed_length : (ds : List ℕ) → length (trimmed ds) ≤ length ds
unfolding trimmed
trimmed_length [] = omega arith
trimmed_length (d ∷ []) = omega arith
trimmed_length (d ∷ e ∷ ds) = by (eqb d 48) (trimmed_length (e ∷ ds))
  where
    by : (x : Bool) → length (trimmed (e ∷ ds)) ≤ suc (length ds) → length (cond x (trimmed (e ∷ ds)) (d ∷ e ∷ ds)) ≤ suc (suc (length ds))
    by true h = omega arith
    by false h = omega arith

pub decimal_length : (n : ℕ) → length (decimal_text n) ≤ 20
unfolding decimal_text
decimal_length n = let h = trimmed_length (digits_of 10 n 20) in let d = digits_length 10 n 20 in omega arith

pub signed_length : (z : ℤ) → length (signed_text z) ≤ 21
unfolding signed_text
signed_length (pos n) = let h = decimal_length n in omega arith
signed_length (negsuc n) = let h = decimal_length (suc n) in omega arith

pub flag_length : (b : Bool) → length (flag_text b) ≡ 1
flag_length true = refl
flag_length false = refl
