use Rattle.xa.proofs.Laws.{nibble_even, nibble_odd}
use Rattle.xa.proofs.nibble.Goals as goal

pub returns-then-n-eq0 : goal.returns-then-n-eq0
returns-then-n-eq0 c = search nibble_even

pub returns-else-n-eq0 : goal.returns-else-n-eq0
returns-else-n-eq0 c = search nibble_odd
