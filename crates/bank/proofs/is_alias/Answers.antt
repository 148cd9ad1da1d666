use borrow.Author.Rules.{rules}
use Rattle.bank.specs.Bank.{is_alias}
use Rattle.bank.proofs.is_alias.Goals as goal

pub returns : goal.returns
unfolding is_alias
returns c = search rules
