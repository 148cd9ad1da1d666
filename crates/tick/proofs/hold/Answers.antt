use Rattle.std.proofs.Common.{to_z-of_z}
use Rattle.tick.proofs.Parts.{hold_right, hold_left}
use Rattle.tick.proofs.hold.Goals as goal

pub returns-then-right : goal.returns-then-right
returns-then-right c = search (hold_right, to_z-of_z)

pub returns : goal.returns
returns c = search (hold_left, to_z-of_z)
