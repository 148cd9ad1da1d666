use Rattle.text.proofs.Laws.{puts_then}
use Rattle.answers.specs.Answer.{ram_text}
use Rattle.answers_memory.proofs.ram.Goals as goal

pub returns : goal.returns
unfolding ram_text
returns c = search puts_then
