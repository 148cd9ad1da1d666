use Rattle.encoder_check.proofs.Laws.{Searched}
use Rattle.encoder_check.proofs.first_fault.Given as goal

abbrev pub invariant-loop-n : goal.invariant-loop-n
invariant-loop-n l = Searched l.originals l.encoded l.largest l.h l.n
