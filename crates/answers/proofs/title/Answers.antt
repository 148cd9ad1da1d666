use Rattle.text.proofs.Laws.{puts_then}
use Rattle.answers.specs.Answer.{title_text}
use Rattle.answers.proofs.title.Goals as goal

pub returns : goal.returns
unfolding title_text
returns c = search puts_then
