use Rattle.layout.proofs.Read.{active_is}
use Rattle.layout.proofs.is_active.Goals as goal

pub returns : goal.returns
returns c = search active_is
