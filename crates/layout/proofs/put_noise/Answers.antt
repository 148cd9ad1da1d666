use Rattle.layout.proofs.Tail.{noise_holds}
use Rattle.layout.proofs.put_noise.Goals as goal

pub returns : goal.returns
returns c = search noise_holds
