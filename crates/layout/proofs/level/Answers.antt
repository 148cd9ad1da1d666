use Rattle.layout.proofs.Read.{level_is}
use Rattle.layout.proofs.level.Goals as goal

pub returns : goal.returns
returns c = search level_is
