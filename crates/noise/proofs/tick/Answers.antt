use Rattle.noise.proofs.Laws.{reload_twice, ticked_waits, ticked_once, ticked_twice}
use Rattle.noise.proofs.tick.Goals as goal

pub returns-then-step-n : goal.returns-then-step-n
returns-then-step-n c = search ticked_waits

pub overflow_sub-timer-else-below-r : goal.overflow_sub-timer-else-below-r
overflow_sub-timer-else-below-r c = search reload_twice

pub returns-then-below-r : goal.returns-then-below-r
returns-then-below-r c = search ticked_once

pub returns-else-below-r : goal.returns-else-below-r
returns-else-below-r c = search ticked_twice
