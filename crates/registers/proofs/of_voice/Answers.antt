use mathlib.Core.Path.{refl}
use Rattle.registers.specs.Map.{of_voice}
use Rattle.registers.proofs.of_voice.Goals as goal

pub returns : goal.returns
unfolding of_voice
returns c = refl
