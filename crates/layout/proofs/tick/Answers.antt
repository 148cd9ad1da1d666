use Rattle.layout.proofs.Tail.{tick_is}
use Rattle.layout.proofs.tick.Goals as goal

pub returns : goal.returns
returns c = search tick_is
