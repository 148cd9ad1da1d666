use Rattle.layout.proofs.Read.{idle_is}
use Rattle.layout.proofs.is_idle.Goals as goal

pub returns : goal.returns
returns c = search idle_is
