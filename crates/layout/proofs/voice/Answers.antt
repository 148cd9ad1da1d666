use Rattle.layout.proofs.Read.{voice_is}
use Rattle.layout.proofs.voice.Goals as goal

pub returns : goal.returns
returns c = search voice_is
