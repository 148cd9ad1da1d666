use Rattle.std.proofs.Common.{to_z-of_z}
use Rattle.tick.proofs.Parts.{after_as}
use Rattle.tick.proofs.after.Goals as goal

pub returns : goal.returns
returns c = search (after_as, to_z-of_z)
