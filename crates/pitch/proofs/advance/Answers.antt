use mathlib.Core.Path.{refl}
use Rattle.pitch.specs.Pitch.{moved_of}
use Rattle.pitch.proofs.advance.Goals as goal

pub returns : goal.returns
unfolding moved_of
returns c = refl
