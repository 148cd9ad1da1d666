use borrow.Author.Rules.{rules}
use Rattle.bank_write.specs.Write.{are_sized}
use Rattle.bank_write.proofs.lists.Lists.new.Goals as goal

pub returns-then-not-sized : goal.returns-then-not-sized
unfolding are_sized
returns-then-not-sized c = search rules

pub returns : goal.returns
unfolding are_sized
returns c = search rules
