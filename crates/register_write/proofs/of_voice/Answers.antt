use Rattle.register_write.proofs.Work.{of_voice_is}
use Rattle.register_write.proofs.of_voice.Goals as goal

pub returns : goal.returns
returns c = search of_voice_is
