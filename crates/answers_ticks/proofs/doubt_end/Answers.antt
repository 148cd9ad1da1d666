use Rattle.text.proofs.Laws.{puts_then}
use Rattle.answers.specs.Answer.{doubt_end}
use Rattle.answers_ticks.proofs.doubt_end.Goals as goal

pub returns : goal.returns
unfolding doubt_end
returns c = search puts_then
