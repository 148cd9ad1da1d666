use Rattle.text.proofs.Laws.{puts_then}
use Rattle.answers.specs.Answer.{inward_text}
use Rattle.answers.proofs.moved_in.Goals as goal

pub returns : goal.returns
unfolding inward_text
returns c = search puts_then
