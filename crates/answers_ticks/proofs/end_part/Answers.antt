use Rattle.text.proofs.Laws.{puts_then}
use Rattle.answers.specs.Answer.{end_part}
use Rattle.answers_ticks.proofs.end_part.Goals as goal

pub returns : goal.returns
unfolding end_part
returns c = search puts_then
