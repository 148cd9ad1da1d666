use mir.Facts.{to_z-of_z}
use Rattle.reverb.proofs.Turns.{fetch_does}
use Rattle.reverb.proofs.DelayLine.fetch.Goals as goal

pub returns : goal.returns
returns c = search (fetch_does, to_z-of_z)
