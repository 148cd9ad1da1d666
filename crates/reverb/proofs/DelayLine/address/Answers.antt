use borrow.Author.Rules.{rules}
use Rattle.reverb.proofs.Turns.{address_after, address_before}
use Rattle.reverb.proofs.DelayLine.address.Goals as goal

pub returns-then-back-k : goal.returns-then-back-k
returns-then-back-k c = search (address_after, rules)

pub returns-else-back-k : goal.returns-else-back-k
returns-else-back-k c = search (address_before, rules)
