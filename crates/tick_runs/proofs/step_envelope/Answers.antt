use Rattle.tick_runs.proofs.Voices.{waits_once, waits_holds, steps_holds}
use Rattle.tick_runs.proofs.step_envelope.Goals as goal

pub overflow_sub-wait : goal.overflow_sub-wait
overflow_sub-wait c = waits_once _ c.is_active.ensures c.if-is_active-wait.true

pub returns-then-is_active-wait : goal.returns-then-is_active-wait
returns-then-is_active-wait c = waits_holds _ _ _ _ c.wait-wait.ensures c.is_active.ensures c.if-is_active-wait.true c.put_wait.ensures

pub returns : goal.returns
returns c = steps_holds _ _ c.of-s.ensures c.envelope.ensures c.tick-e.ensures c.put_envelope.ensures
