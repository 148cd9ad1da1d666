use Rattle.text.proofs.Laws.{puts_byte, puts_then}
use Rattle.answers.specs.Answer.{bytes_end}
use Rattle.answers_memory.proofs.bytes_end.Goals as goal

pub returns : goal.returns
unfolding bytes_end
returns c = search (puts_byte, puts_then)
