use borrow.Author.Rules.{rules}
use Rattle.answers_memory.proofs.Laws.{marks_all, marks_more, marks_none}
use Rattle.answers_memory.proofs.marks_from.Goals as goal

pub loop-h-init : goal.loop-h-init
loop-h-init c = search (marks_all, rules)

pub loop-h-preserved : goal.loop-h-preserved
loop-h-preserved c = search (marks_more, rules)

pub returns : goal.returns
returns c = search (marks_none, rules)
