use Rattle.layout.proofs.Tail.{register_is}
use Rattle.layout.proofs.register.Goals as goal

pub returns : goal.returns
returns c = search register_is
