use Rattle.xa.proofs.Laws.{header_parts}
use Rattle.xa.proofs.header_of.Goals as goal

pub returns : goal.returns
returns c = search header_parts
