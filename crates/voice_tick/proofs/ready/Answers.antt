use Rattle.voice.proofs.Ticks.{ready_loaded, ready_loads}
use Rattle.voice_tick.proofs.ready.Goals as goal

pub returns-then-v : goal.returns-then-v
returns-then-v c = search ready_loaded

pub returns : goal.returns
returns c = search ready_loads
