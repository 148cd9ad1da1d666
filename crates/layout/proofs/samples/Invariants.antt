use mathlib.Core.Path.{◌≡◌}
use Prim.Native.Nat.{◌+◌, ◌*◌, ◌-◌, ◌≤◌}
use lib.ListN.{length, get_or, take}
use Rattle.fixed.specs.Signed.{signed}
use Rattle.layout.specs.Layout.{list_of}
use Rattle.layout.proofs.samples.Given as goal

abbrev pub invariant-loop-k : goal.invariant-loop-k
invariant-loop-k l = (l.k ≤ 31) × (length l.all ≡ 31) × (take l.k l.all ≡ list_of (λ j. signed 16 (get_or l.state (524 + l.n * 31 + j) 0)) l.k)

abbrev pub decreases-loop-k : goal.decreases-loop-k
decreases-loop-k l = 31 - l.k
