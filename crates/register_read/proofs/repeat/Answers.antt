use Rattle.register_read.proofs.Values.{repeat_is}
use Rattle.register_read.proofs.repeat.Goals as goal

pub returns : goal.returns
returns c = search repeat_is
