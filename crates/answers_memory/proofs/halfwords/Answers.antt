use borrow.Author.Rules.{rules}
use Rattle.answers_memory.proofs.Laws.{halfwords_all, halfwords_more, halfwords_none}
use Rattle.answers_memory.proofs.halfwords.Goals as goal

pub loop-value-init : goal.loop-value-init
loop-value-init c = search (halfwords_all, rules)

pub loop-value-preserved : goal.loop-value-preserved
loop-value-preserved c = search (halfwords_more, rules)

pub returns : goal.returns
returns c = search (halfwords_none, rules)
