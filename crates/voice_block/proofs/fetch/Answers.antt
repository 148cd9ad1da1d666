use Rattle.voice.proofs.Ticks.{load_does}
use Rattle.voice_block.proofs.fetch.Goals as goal

pub returns : goal.returns
returns c = search load_does
