use borrow.Author.Rules.{rules}
use Rattle.bank.proofs.Laws.{header_two, count_as}
use Rattle.bank.proofs.entry_count.Goals as goal

pub half_at-requires : goal.half_at-requires
half_at-requires c = search (rules, header_two)

pub returns : goal.returns
returns c = search count_as
