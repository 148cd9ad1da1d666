use borrow.Author.Rules.{rules}
use Rattle.bank.proofs.Laws.{header_short, header_as}
use Rattle.bank.proofs.has_header.Goals as goal

pub returns-then-bank-lt2 : goal.returns-then-bank-lt2
returns-then-bank-lt2 c = search header_short

pub returns : goal.returns
returns c = search (rules, header_as)
