use Rattle.register_write.proofs.Work.{keyed_off_in}
use Rattle.register_write.proofs.key_off.Goals as goal

pub returns : goal.returns
returns c = search keyed_off_in
