use Rattle.transfer.proofs.Whole.{inward_does}
use Rattle.transfer.proofs.inward_straight.Goals as goal

pub returns : goal.returns
returns c = search inward_does
