use Rattle.xa.proofs.Laws.{Channel}
use Rattle.xa.proofs.channel.Given as goal

abbrev pub invariant-loop-n : goal.invariant-loop-n
invariant-loop-n l = Channel l.sector l.first l.step l.initial.h l.initial.out l.out l.h l.n
