use Rattle.text.proofs.Laws.{puts_byte}
use Rattle.answers.specs.Answer.{flag_part}
use Rattle.answers.proofs.flag_part.Goals as goal

pub returns : goal.returns
unfolding flag_part
returns c = search puts_byte
