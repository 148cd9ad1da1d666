use Rattle.text.proofs.Laws.{puts_then}
use Rattle.answers.specs.Answer.{moved_of}
use Rattle.answers.proofs.moved.Goals as goal

pub returns : goal.returns
unfolding moved_of
returns c = search puts_then
