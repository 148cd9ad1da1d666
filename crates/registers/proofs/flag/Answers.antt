use mathlib.Core.Path.{refl}
use Rattle.registers.specs.Map.{flag_of}
use Rattle.registers.proofs.flag.Goals as goal

pub returns : goal.returns
unfolding flag_of
returns c = refl
