use Rattle.text.proofs.Laws.{puts_set, puts_clear}
use Rattle.answers.specs.Answer.{write_answer}
use Rattle.answers.proofs.write_answer.Goals as goal

pub returns-then-bench : goal.returns-then-bench
unfolding write_answer
returns-then-bench c = search puts_set

pub returns-else-bench : goal.returns-else-bench
unfolding write_answer
returns-else-bench c = search puts_clear
