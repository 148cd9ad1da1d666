use Rattle.text.proofs.Laws.{puts_then}
use Rattle.answers.specs.Answer.{write_text}
use Rattle.answers.proofs.wrote.Goals as goal

pub returns : goal.returns
unfolding write_text
returns c = search puts_then
