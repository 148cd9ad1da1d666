use mathlib.Core.Path.{◌≡◌}
use Rattle.transfer.specs.Whole.{stored_of}
use Rattle.transfer.proofs.store_all.Given as goal

abbrev pub invariant-loop-i : goal.invariant-loop-i
invariant-loop-i l = l.ram ≡ stored_of l.initial.ram l.h l.values l.i
