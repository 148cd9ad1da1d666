use Rattle.text.proofs.Laws.{puts_byte}
use Rattle.answers.specs.Answer.{hex_part}
use Rattle.answers.proofs.hex_part.Goals as goal

pub returns : goal.returns
unfolding hex_part
returns c = search puts_byte
