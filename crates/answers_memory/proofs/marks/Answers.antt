use Rattle.text.proofs.Laws.{puts_then}
use Rattle.answers.specs.Answer.{marks_text}
use Rattle.answers_memory.proofs.marks.Goals as goal

pub returns : goal.returns
unfolding marks_text
returns c = search puts_then
