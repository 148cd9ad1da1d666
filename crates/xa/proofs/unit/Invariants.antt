use Rattle.xa.proofs.Laws.{Part}
use Rattle.xa.proofs.unit.Given as goal

abbrev pub invariant-loop-j : goal.invariant-loop-j
invariant-loop-j l = Part l.sector l.n l.coding.header l.at l.step l.initial.out l.fn.before l.out l.h l.j
