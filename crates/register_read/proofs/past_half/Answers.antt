use Rattle.register_read.proofs.Values.{past_half}
use Rattle.register_read.proofs.past_half.Goals as goal

pub returns : goal.returns
returns c = search past_half
