use Rattle.text.proofs.Laws.{puts_then}
use Rattle.answers.specs.Answer.{view_text}
use Rattle.answers_memory.proofs.viewed.Goals as goal

pub returns : goal.returns
unfolding view_text
returns c = search puts_then
