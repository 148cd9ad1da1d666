use mathlib.Core.Path.{refl}
use Rattle.noise.specs.Noise.{reload_of}
use Rattle.noise.proofs.reload.Goals as goal

pub returns : goal.returns
unfolding reload_of
returns c = refl
