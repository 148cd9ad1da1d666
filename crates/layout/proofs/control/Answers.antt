use Rattle.layout.proofs.Tail.{control_is}
use Rattle.layout.proofs.control.Goals as goal

pub returns : goal.returns
returns c = search control_is
