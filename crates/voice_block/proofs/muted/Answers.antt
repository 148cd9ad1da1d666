use Rattle.voice.proofs.Keys.{muted_off, muted_kept}
use Rattle.voice_block.proofs.muted.Goals as goal

pub returns-then-flags : goal.returns-then-flags
returns-then-flags c = search muted_off

pub returns : goal.returns
returns c = search muted_kept
