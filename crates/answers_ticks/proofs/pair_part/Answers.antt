use Rattle.text.proofs.Laws.{puts_then}
use Rattle.answers_ticks.proofs.pair_part.Goals as goal

pub returns : goal.returns
returns g c = search puts_then
