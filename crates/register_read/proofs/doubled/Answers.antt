use mir.Facts.{to_z-of_z}
use Rattle.register_read.proofs.Values.{doubled_as}
use Rattle.register_read.proofs.doubled.Goals as goal

pub returns : goal.returns
returns c = search (doubled_as, to_z-of_z)
