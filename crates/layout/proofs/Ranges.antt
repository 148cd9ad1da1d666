-- A buffer is a state exactly if it is well-formed and what stands in it is in range. Assumes nothing.
use mathlib.Core.Path.{◌≡◌}
use mathlib.Core.Bool.{true}
use mathlib.Core.List.{List}
use Prim.Native.Nat.{ℕ}
use Rattle.fixed.proofs.Bools.{and_first, and_rest}
use Rattle.chip.specs.Range.{InRange}
use Rattle.chip.proofs.Tests.{in_range}
use Rattle.layout.specs.Layout.{state_of, is_well_formed, is_state, Formed}
use Rattle.layout.proofs.Laws.{formed, registers_count, voices_count}

module _ (xs : List ℕ) where
  pub state_formed : is_state xs ≡ true → Formed xs
  unfolding is_state
  state_formed e = formed xs (and_first _ _ e)

  pub state_in_range : is_state xs ≡ true → InRange (state_of xs)
  unfolding is_state
  state_in_range e = in_range (state_of xs) (and_rest (is_well_formed xs) _ e) (record { regs = registers_count xs; voices = voices_count xs })
