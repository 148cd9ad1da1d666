use borrow.Author.Rules.{rules}
use Rattle.soundram.proofs.Addresses.{forward_small, forward_wraps}
use Rattle.soundram.proofs.forward.Goals as goal

pub returns-then-s-size : goal.returns-then-s-size
returns-then-s-size c = search forward_small

pub returns-else-s-size : goal.returns-else-s-size
returns-else-s-size c = search (forward_wraps, rules)
