use mathlib.Core.Path.{refl}
use Rattle.soundram.specs.Memory.{marked}
use Rattle.access.proofs.is_marked.Goals as goal

pub returns : goal.returns
unfolding marked
returns c = refl
