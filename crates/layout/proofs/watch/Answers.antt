use Rattle.layout.proofs.Tail.{watch_is}
use Rattle.layout.proofs.watch.Goals as goal

pub returns : goal.returns
returns c = search watch_is
