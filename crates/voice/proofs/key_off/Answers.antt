use Rattle.voice.proofs.Keys.{keyed_off_lem, keyed_still}
use Rattle.voice.proofs.key_off.Goals as goal

pub returns-then-goes_off : goal.returns-then-goes_off
returns-then-goes_off c = search keyed_off_lem

pub returns : goal.returns
returns c = search keyed_still
