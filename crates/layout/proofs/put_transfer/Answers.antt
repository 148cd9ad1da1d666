use Rattle.layout.proofs.Tail.{transfer_holds}
use Rattle.layout.proofs.put_transfer.Goals as goal

pub returns : goal.returns
returns c = search transfer_holds
