use Rattle.layout.proofs.Read.{size_is}
use Rattle.layout.proofs.size.Goals as goal

pub returns : goal.returns
returns c = search size_is
