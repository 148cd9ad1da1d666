use mathlib.Core.Path.{refl}
use Rattle.gauss.specs.Gauss.{table}
use Rattle.gauss.proofs.Table.new.Goals as goal

pub invariant_of-result : goal.invariant_of-result
unfolding table
invariant_of-result c = record { right = refl }
