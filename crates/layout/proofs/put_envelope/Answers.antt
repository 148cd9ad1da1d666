use Rattle.layout.proofs.Put.{envelope_holds}
use Rattle.layout.proofs.put_envelope.Goals as goal

pub returns : goal.returns
returns c = search envelope_holds
