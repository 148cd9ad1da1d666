use mathlib.Core.Path.{refl}
use Rattle.soundram.specs.Address.{address_of}
use Rattle.soundram.proofs.Addresses.{address_small}
use Rattle.soundram.proofs.address_of.Goals as goal

pub returns-then-a-size : goal.returns-then-a-size
returns-then-a-size c = search address_small

pub returns-else-a-size : goal.returns-else-a-size
unfolding address_of
returns-else-a-size c = refl
