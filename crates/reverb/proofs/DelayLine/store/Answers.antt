use mir.Facts.{to_z-of_z}
use Rattle.reverb.proofs.Turns.{store_does, store_not}
use Rattle.reverb.proofs.DelayLine.store.Goals as goal

pub returns-then-self : goal.returns-then-self
returns-then-self c = search (store_does, to_z-of_z)

pub returns-else-self : goal.returns-else-self
returns-else-self c = search store_not
