use mathlib.Core.Path.{◌≡◌}
use Rattle.fixed.specs.Tests.{all_below}
use Rattle.range_check.specs.Voices.{fields_ok}
use Rattle.range_check.proofs.fields.Given as goal

abbrev pub invariant-loop-n : goal.invariant-loop-n
invariant-loop-n l = l.ok ≡ all_below l.n (fields_ok l.state l.last)
