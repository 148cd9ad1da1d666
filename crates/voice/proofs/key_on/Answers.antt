use Rattle.voice.proofs.Keys.{keyed_on_lem}
use Rattle.voice.proofs.key_on.Goals as goal

pub returns : goal.returns
returns c = search keyed_on_lem
