use Rattle.text.proofs.Laws.{puts_then}
use Rattle.answers.specs.Answer.{tick_start}
use Rattle.answers_ticks.proofs.tick_start.Goals as goal

pub returns : goal.returns
unfolding tick_start
returns c = search puts_then
