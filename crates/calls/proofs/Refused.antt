-- No refusal has the number 0. Assumes nothing.
use mathlib.Core.Path.{◌≡◌}
use Prim.Native.Nat.{ℕ}
use native.Mathlib.Omega.{arith}
use Rattle.calls.specs.declared.Refusal.{Refusal}
use Rattle.calls.specs.declared.Refusal.TheVariants.{OtherLength, NotAState, UnlistedOffset, ReadOnly, NotCarried, OtherMode, BadCount, BadBlock, UndocumentedBits, BadBuffers}
use Rattle.calls.specs.Refusals.{number_of}

pub numbered : (r : Refusal) {n : ℕ} → n ≡ number_of r → n ≡ 0 → ⊥
numbered OtherLength e z = omega arith
numbered NotAState e z = omega arith
numbered UnlistedOffset e z = omega arith
numbered ReadOnly e z = omega arith
numbered NotCarried e z = omega arith
numbered OtherMode e z = omega arith
numbered BadCount e z = omega arith
numbered BadBlock e z = omega arith
numbered UndocumentedBits e z = omega arith
numbered BadBuffers e z = omega arith
