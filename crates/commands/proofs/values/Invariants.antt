use Rattle.commands.specs.Command.{values_of}
use lib.ListN.{length}
use mathlib.Core.Path.{◌≡◌}
use Rattle.commands.proofs.values.Given as goal

abbrev pub invariant-loop-n : goal.invariant-loop-n
invariant-loop-n l = (length l.out ≡ 33) × (l.out ≡ values_of l.fn.l.fields l.n)
