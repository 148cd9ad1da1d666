use Rattle.text.proofs.Laws.{puts_byte}
use Rattle.answers.specs.Answer.{decimal_part}
use Rattle.answers.proofs.decimal_part.Goals as goal

pub returns : goal.returns
unfolding decimal_part
returns c = search puts_byte
