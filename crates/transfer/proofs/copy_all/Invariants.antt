use mathlib.Core.Path.{◌≡◌}
use Rattle.transfer.specs.Whole.{copied_of}
use Rattle.transfer.proofs.copy_all.Given as goal

abbrev pub invariant-loop-i : goal.invariant-loop-i
invariant-loop-i l = l.out ≡ copied_of l.ram l.h l.initial.out l.i
