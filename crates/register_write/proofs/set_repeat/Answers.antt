use Rattle.register_write.proofs.Work.{repeat_put}
use Rattle.register_write.proofs.set_repeat.Goals as goal

pub returns : goal.returns
returns c = search repeat_put
