use mathlib.Core.Path.{refl}
use Rattle.soundram.specs.Address.{unit_of}
use Rattle.soundram.proofs.unit_of.Goals as goal

pub returns : goal.returns
unfolding unit_of
returns c = refl
