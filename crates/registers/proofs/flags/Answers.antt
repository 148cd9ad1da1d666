use borrow.Author.Rules.{rules}
use Rattle.registers.proofs.Pairs.{pair_flags}
use Rattle.registers.proofs.flags.Goals as goal

pub returns : goal.returns
returns c = search (pair_flags, rules)
