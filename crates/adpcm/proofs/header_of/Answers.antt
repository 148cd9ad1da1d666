use Rattle.adpcm.proofs.Laws.{header_parts}
use Rattle.adpcm.proofs.header_of.Goals as goal

pub returns : goal.returns
returns c = search header_parts
