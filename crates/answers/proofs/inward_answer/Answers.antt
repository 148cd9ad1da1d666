use Rattle.text.proofs.Laws.{puts_set, puts_clear}
use Rattle.answers.specs.Answer.{inward_answer}
use Rattle.answers.proofs.inward_answer.Goals as goal

pub returns-then-bench : goal.returns-then-bench
unfolding inward_answer
returns-then-bench c = search puts_set

pub returns-else-bench : goal.returns-else-bench
unfolding inward_answer
returns-else-bench c = search puts_clear
