use Rattle.register_write.proofs.Work.{control_stays, control_stops}
use Rattle.register_write.proofs.set_control.Goals as goal

pub returns-else-value-ne1 : goal.returns-else-value-ne1
returns-else-value-ne1 c = search control_stays

pub returns-then-value-ne1 : goal.returns-then-value-ne1
returns-then-value-ne1 c = search control_stops
