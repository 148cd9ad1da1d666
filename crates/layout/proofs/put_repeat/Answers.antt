use Rattle.layout.proofs.Put.{repeat_holds}
use Rattle.layout.proofs.put_repeat.Goals as goal

pub returns : goal.returns
returns c = search repeat_holds
