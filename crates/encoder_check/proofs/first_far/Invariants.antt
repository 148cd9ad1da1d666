use mathlib.Core.Path.{◌≡◌}
use Prim.Native.Nat.{◌-◌}
use Rattle.fixed.specs.Tests.{first_from, first_below}
use Rattle.encoder_check.specs.Check.{is_near}
use Rattle.encoder_check.proofs.first_far.Given as goal

abbrev pub invariant-loop-j : goal.invariant-loop-j
invariant-loop-j l =
    let near = is_near l.largest l.fn.samples l.originals l.at in first_below 28 near ≡ first_from l.j (28 - l.j) near
