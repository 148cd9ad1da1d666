use Rattle.transfer.proofs.Whole.{outward_does}
use Rattle.transfer.proofs.outward_straight.Goals as goal

pub returns : goal.returns
returns c = search outward_does
