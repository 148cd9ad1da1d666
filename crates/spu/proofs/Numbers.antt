-- The numbers that calls give, and calls that touch no memory. Assumes nothing.
use mathlib.Core.Path.{◌≡◌, refl, sym, ◌∙◌}
use mathlib.Core.Bool.{Bool, true, false, ◌||◌, not}
use mathlib.Core.List.{List, [], ◌∷◌}
use Prim.Native.Nat.{ℕ, ◌/◌}
use lib.Dec.{eqb}
use Rattle.chip.specs.State.{State}
use Rattle.spu.specs.Step.{Test, test, first_of, lent_tests}
use Rattle.spu.proofs.Range.{passed_first, passed_rest}

-- ---- the first test that applies

pub here : (b : Bool) (n : ℕ) (ts : List Test) → b ≡ true → n ≡ first_of (test b n ∷ ts)
unfolding first_of
here b n ts e = rw e

pub later : (b : Bool) (n : ℕ) (ts : List Test) {m : ℕ} → b ≡ false → m ≡ first_of ts → m ≡ first_of (test b n ∷ ts)
unfolding first_of
later b n ts e f = rw (e, f)

pub none : 0 ≡ first_of []
unfolding first_of
none = refl

-- what is lent and the state: n is the code's number of both
module _ (good : Bool) (s : State) (ram marks : ℕ) (ts : List Test) {n : ℕ} (e : n ≡ first_of (lent_tests good s ram marks [])) where
  pub lent_refused : (n ≡ 0 → ⊥) → n ≡ first_of (lent_tests good s ram marks ts)
  unfolding first_of
  lent_refused z = by (not (eqb ram s.choices.size) || not (eqb marks (s.choices.size / 16))) (not good) e
    where
      by : (a b : Bool) → n ≡ first_of (test a 1 ∷ test b 2 ∷ []) → n ≡ first_of (test a 1 ∷ test b 2 ∷ ts)
      by true b f = f
      by false true f = f
      by false false f = absurd (z f)

  pub lent_passed : {m : ℕ} → n ≡ 0 → m ≡ first_of ts → m ≡ first_of (lent_tests good s ram marks ts)
  lent_passed z f =
      let g = sym e ∙ z in
      later _ 1 _ (passed_first _ 0 _ g) (later _ 2 _ (passed_first _ 1 _ (passed_rest _ 0 _ g)) f)

-- a is the code's test of the state
module _ (good : Bool) (s : State) (ram marks : ℕ) (ts : List Test) where
  pub lent_1 : (not (eqb ram s.choices.size) || not (eqb marks (s.choices.size / 16))) ≡ true → 1 ≡ first_of (lent_tests good s ram marks ts)
  lent_1 t = here _ 1 _ t

  pub lent_2 : {a : Bool} → (not (eqb ram s.choices.size) || not (eqb marks (s.choices.size / 16))) ≡ false → a ≡ good → not a ≡ true → 2 ≡ first_of (lent_tests good s ram marks ts)
  lent_2 t p u = later _ 1 _ t (here _ 2 _ (rw (← p) u))

pub lent_0 : (good : Bool) (s : State) (ram marks : ℕ) {a : Bool} → (not (eqb ram s.choices.size) || not (eqb marks (s.choices.size / 16))) ≡ false → a ≡ good → not a ≡ false → 0 ≡ first_of (lent_tests good s ram marks [])
lent_0 good s ram marks t p u = later _ 1 _ t (later _ 2 _ (rw (← p) u) none)
