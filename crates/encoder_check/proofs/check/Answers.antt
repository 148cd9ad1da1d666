use Rattle.encoder_check.proofs.Laws.{verdict_refused, verdict_yes, verdict_no}
use Rattle.encoder_check.proofs.check.Goals as goal

pub returns-then-not-sized : goal.returns-then-not-sized
returns-then-not-sized c = search verdict_refused

pub returns-then-blocks-groups : goal.returns-then-blocks-groups
returns-then-blocks-groups c = search verdict_yes

pub returns-else-blocks-groups : goal.returns-else-blocks-groups
returns-else-blocks-groups c = search verdict_no
