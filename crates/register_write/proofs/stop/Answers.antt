use Rattle.register_write.proofs.Work.{stopped_voice}
use Rattle.register_write.proofs.stop.Goals as goal

pub returns : goal.returns
returns c = search stopped_voice
