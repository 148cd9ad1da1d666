use Rattle.encoder_check.proofs.Laws.{judged}
use Rattle.encoder_check.proofs.judge.Goals as goal

pub returns : goal.returns
returns c = search judged
