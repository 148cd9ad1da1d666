use Rattle.voice.proofs.Keys.{looped_start, looped_kept}
use Rattle.voice_block.proofs.looped.Goals as goal

pub returns-then-flags-eq1 : goal.returns-then-flags-eq1
returns-then-flags-eq1 c = search looped_start

pub returns : goal.returns
returns c = search looped_kept
