use Rattle.text.proofs.Laws.{puts_byte, puts_then}
use Rattle.answers.specs.Answer.{marks_end}
use Rattle.answers_memory.proofs.marks_end.Goals as goal

pub returns : goal.returns
unfolding marks_end
returns c = search (puts_byte, puts_then)
