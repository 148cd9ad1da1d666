use mathlib.Core.Path.{refl}
use Rattle.registers.specs.Map.{register_at}
use Rattle.registers.proofs.at.Goals as goal

pub returns : goal.returns
unfolding register_at
returns c = refl
