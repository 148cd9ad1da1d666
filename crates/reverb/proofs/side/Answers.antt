use borrow.Author.Rules.{rules}
use Rattle.reverb.proofs.Turns.{side_right, side_left}
use Rattle.reverb.proofs.side.Goals as goal

pub returns-then-right : goal.returns-then-right
returns-then-right c = search (side_right, rules)

pub returns-else-right : goal.returns-else-right
returns-else-right c = search (side_left, rules)
