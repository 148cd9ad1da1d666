use borrow.Author.Rules.{rules}
use Rattle.bank.specs.Bank.{is_sound}
use Rattle.bank.proofs.is_sound.Goals as goal

pub returns : goal.returns
unfolding is_sound
returns c = search rules
