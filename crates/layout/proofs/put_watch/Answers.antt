use Rattle.layout.proofs.Tail.{watch_holds}
use Rattle.layout.proofs.put_watch.Goals as goal

pub returns : goal.returns
returns c = search watch_holds
