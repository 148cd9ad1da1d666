use Rattle.envelope.proofs.Ticks.{ticked_inactive, ticked_waits, ticked_moves}
use Rattle.envelope_tick.proofs.tick.Goals as goal

pub returns-then-not-is_active : goal.returns-then-not-is_active
returns-then-not-is_active c = search ticked_inactive

pub returns-then-e-gt1 : goal.returns-then-e-gt1
returns-then-e-gt1 c = search ticked_waits

pub returns-else-e-gt1 : goal.returns-else-e-gt1
returns-else-e-gt1 c = search ticked_moves
