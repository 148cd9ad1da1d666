use Rattle.text.proofs.Laws.{puts_then}
use Rattle.answers.specs.Answer.{reports_part}
use Rattle.answers.proofs.reports_part.Goals as goal

pub returns : goal.returns
unfolding reports_part
returns c = search puts_then
