use Rattle.layout.proofs.Read.{envelope_is}
use Rattle.layout.proofs.envelope.Goals as goal

pub returns : goal.returns
returns c = search envelope_is
