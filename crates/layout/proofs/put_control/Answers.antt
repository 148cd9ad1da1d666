use Rattle.layout.proofs.Tail.{control_holds}
use Rattle.layout.proofs.put_control.Goals as goal

pub returns : goal.returns
returns c = search control_holds
