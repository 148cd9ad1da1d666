use mathlib.Core.Path.{◌≡◌}
use Rattle.fixed.specs.Tests.{all_below}
use Rattle.range_check.proofs.Tests.{waiting}
use Rattle.range_check.proofs.waits.Given as goal

abbrev pub invariant-loop-n : goal.invariant-loop-n
invariant-loop-n l = l.ok ≡ all_below l.n (waiting l.state)
