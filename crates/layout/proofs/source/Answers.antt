use Rattle.layout.proofs.Read.{source_is}
use Rattle.layout.proofs.source.Goals as goal

pub returns : goal.returns
returns c = search source_is
