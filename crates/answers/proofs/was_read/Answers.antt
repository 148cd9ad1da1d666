use Rattle.text.proofs.Laws.{puts_then}
use Rattle.answers.specs.Answer.{read_text}
use Rattle.answers.proofs.was_read.Goals as goal

pub returns : goal.returns
unfolding read_text
returns c = search puts_then
