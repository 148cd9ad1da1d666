use Rattle.text.proofs.Laws.{puts_then}
use Rattle.answers.specs.Answer.{reset_text}
use Rattle.answers.proofs.was_reset.Goals as goal

pub returns : goal.returns
unfolding reset_text
returns c = search puts_then
