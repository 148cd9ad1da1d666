use Rattle.text.proofs.Laws.{puts_byte}
use Rattle.answers.specs.Answer.{signed_part}
use Rattle.answers_ticks.proofs.Laws.{signed_kept}
use Rattle.answers_ticks.proofs.I16Sample.put.Goals as goal

pub returns : goal.returns
unfolding signed_part
returns c = search (puts_byte, signed_kept)
