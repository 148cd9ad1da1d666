use Rattle.encoder_check.proofs.Laws.{flag_right}
use Rattle.encoder_check.proofs.is_flag_right.Goals as goal

pub returns : goal.returns
returns c = search flag_right
