use Rattle.envelope.proofs.Rates.{rate_shift}
use Rattle.envelope.proofs.Ticks.{entered_active, entered_inactive}
use Rattle.envelope_tick.proofs.enter.Goals as goal

pub cycles-wait-requires : goal.cycles-wait-requires
cycles-wait-requires c = search rate_shift

pub returns-then-is_active : goal.returns-then-is_active
returns-then-is_active c = search entered_active

pub returns-else-is_active : goal.returns-else-is_active
returns-else-is_active c = search entered_inactive
