use Rattle.voice.proofs.Keys.{ended_as}
use Rattle.voice_block.proofs.end.Goals as goal

pub returns : goal.returns
returns c = search ended_as
