use Rattle.layout.proofs.Read.{loaded_is}
use Rattle.layout.proofs.loaded.Goals as goal

pub returns : goal.returns
returns c = search loaded_is
