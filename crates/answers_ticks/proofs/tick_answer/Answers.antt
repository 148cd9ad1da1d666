use Rattle.text.proofs.Laws.{puts_set, puts_clear}
use Rattle.answers.specs.Answer.{tick_answer}
use Rattle.answers_ticks.proofs.tick_answer.Goals as goal

pub returns-then-bench : goal.returns-then-bench
unfolding tick_answer
returns-then-bench c = search puts_set

pub returns-else-bench : goal.returns-else-bench
unfolding tick_answer
returns-else-bench c = search puts_clear
