use mathlib.Core.Path.{refl}
use Rattle.voice.specs.Voice.{fresh}
use Rattle.voice.proofs.Voice.fresh.Goals as goal

pub returns : goal.returns
unfolding fresh
returns c = refl
