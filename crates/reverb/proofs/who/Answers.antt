use Rattle.reverb.proofs.Turns.{who_right, who_left}
use Rattle.reverb.proofs.who.Goals as goal

pub returns-then-right : goal.returns-then-right
returns-then-right c = search who_right

pub returns-else-right : goal.returns-else-right
returns-else-right c = search who_left
