use Rattle.text.proofs.Laws.{puts_then}
use Rattle.answers.specs.Answer.{refused_text}
use Rattle.answers.proofs.refused.Goals as goal

pub returns : goal.returns
unfolding refused_text
returns c = search puts_then
