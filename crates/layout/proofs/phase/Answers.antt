use Rattle.layout.proofs.Read.{phase_is}
use Rattle.layout.proofs.phase.Goals as goal

pub returns : goal.returns
returns c = search phase_is
