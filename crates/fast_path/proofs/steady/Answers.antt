use borrow.Author.Rules.{rules}
use Rattle.fast_path.proofs.Stays.{steady_none, steady_some}
use Rattle.fast_path.proofs.steady.Goals as goal

pub returns-then-s : goal.returns-then-s
returns-then-s c = search (steady_none, rules)

pub returns : goal.returns
returns c = search (steady_some, rules)
