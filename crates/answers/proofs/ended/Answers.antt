use Rattle.text.proofs.Laws.{puts_set, puts_clear}
use Rattle.answers.specs.Answer.{end_text}
use Rattle.answers.proofs.ended.Goals as goal

pub returns-then-doubt : goal.returns-then-doubt
unfolding end_text
returns-then-doubt c = search puts_set

pub returns-else-doubt : goal.returns-else-doubt
unfolding end_text
returns-else-doubt c = search puts_clear
