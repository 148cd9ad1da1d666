use Rattle.text.proofs.Laws.{puts_then}
use Rattle.answers.specs.Answer.{outward_text}
use Rattle.answers_memory.proofs.moved_out.Goals as goal

pub returns : goal.returns
unfolding outward_text
returns c = search puts_then
