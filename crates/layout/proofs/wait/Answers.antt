use Rattle.layout.proofs.Read.{wait_is}
use Rattle.layout.proofs.wait.Goals as goal

pub returns : goal.returns
returns c = search wait_is
