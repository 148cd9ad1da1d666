use Rattle.layout.proofs.Tail.{noise_is}
use Rattle.layout.proofs.noise.Goals as goal

pub returns : goal.returns
returns c = search noise_is
