use Rattle.text.proofs.Laws.{puts_then}
use Rattle.answers.specs.Answer.{halfwords_end}
use Rattle.answers_memory.proofs.halfwords_end.Goals as goal

pub returns : goal.returns
unfolding halfwords_end
returns c = search puts_then
