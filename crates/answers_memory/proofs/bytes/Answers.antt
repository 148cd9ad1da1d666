use borrow.Author.Rules.{rules}
use Rattle.answers_memory.proofs.Laws.{bytes_all, bytes_more, bytes_none}
use Rattle.answers_memory.proofs.bytes.Goals as goal

pub loop-i-init : goal.loop-i-init
loop-i-init c = search (bytes_all, rules)

pub loop-i-preserved : goal.loop-i-preserved
loop-i-preserved c = search (bytes_more, rules)

pub returns : goal.returns
returns c = search (bytes_none, rules)
