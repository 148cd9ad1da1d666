-- Number 11 beside document 01's numbers of a register write (document 02, M-103). Assumes nothing.
use mathlib.Core.Path.{◌≡◌, refl}
use mathlib.Core.Bool.{Bool, true, false, cond, ◌&&◌, ◌||◌, not}
use mathlib.Core.List.{[], ◌∷◌}
use Prim.Native.Nat.{ℕ}
use lib.Dec.{eqb}
use Rattle.registers.specs.Offsets.{listed, read_only, undocumented, not_written}
use Rattle.chip.specs.State.{State, state_ok}
use Rattle.spu.specs.Step.{test, first_of, number_of, write}

-- document 01's number of a write, "the lowest number that applies"
abbrev pub number_in01 : ℕ → ℕ → State → ℕ
number_in01 offset v s = first_of (test (not (state_ok s)) 2 ∷ test (not (listed offset)) 3 ∷ test (read_only offset) 4 ∷ test (not_written offset v) 5 ∷ [])

-- "The cases in 01 keep their answers. Refusals: 11 undocumented bit, tested after 4 and before 5": a write gives document 01's number, but 11 where that is
-- 0 or 5 and the value has an undocumented bit
pub write_numbers : (offset v : ℕ) (s : State) (ram marks : ℕ)
    → number_of (write offset v) s ram marks
    ≡ (let n = number_in01 offset v s in cond (undocumented offset v && (eqb n 0 || eqb n 5)) 11 n)
unfolding number_of first_of
write_numbers offset v s ram marks = by (not (state_ok s)) (not (listed offset)) (read_only offset) (undocumented offset v) (not_written offset v)
  where
    by : (a b c u d : Bool)
        → first_of (test a 2 ∷ test b 3 ∷ test c 4 ∷ test u 11 ∷ test d 5 ∷ [])
        ≡ (let n = first_of (test a 2 ∷ test b 3 ∷ test c 4 ∷ test d 5 ∷ []) in cond (u && (eqb n 0 || eqb n 5)) 11 n)
    by true b c true d = refl
    by true b c false d = refl
    by false true c true d = refl
    by false true c false d = refl
    by false false true true d = refl
    by false false true false d = refl
    by false false false true true = refl
    by false false false true false = refl
    by false false false false d = refl
