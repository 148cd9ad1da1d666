use Rattle.layout.proofs.Put.{wait_holds}
use Rattle.layout.proofs.put_wait.Goals as goal

pub returns : goal.returns
returns c = search wait_holds
