-- Tests of many numbers. Assumes nothing.
use Rattle.std.specs.Prelude.{Bool, true, cond, ◌&&◌, ℕ, zero, suc}

-- a test passes at each number below n
unfoldable pub all_below : ℕ → (ℕ → Bool) → Bool
all_below zero f = true
all_below (suc n) f = all_below n f && f n

-- the first of the n numbers from i on at which a test fails; i + n if it passes at each
unfoldable pub first_from : (i n : ℕ) → (ℕ → Bool) → ℕ
first_from i zero f = i
first_from i (suc n) f = cond (f i) (first_from (suc i) n f) i

abbrev pub first_below : ℕ → (ℕ → Bool) → ℕ
first_below n f = first_from 0 n f
