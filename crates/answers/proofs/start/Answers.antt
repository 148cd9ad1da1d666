use Rattle.text.proofs.Laws.{puts_byte}
use Rattle.answers.specs.Answer.{start_of}
use Rattle.answers.proofs.start.Goals as goal

pub returns : goal.returns
unfolding start_of
returns c = search puts_byte
