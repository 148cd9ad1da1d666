use Rattle.text.proofs.Laws.{text_all, text_more, text_none}
use borrow.Author.Rules.{rules}
use Rattle.text.proofs.Output.put_text.Goals as goal

pub loop-b-init : goal.loop-b-init
loop-b-init c = search (text_all, rules)

pub loop-b-preserved : goal.loop-b-preserved
loop-b-preserved c = search (text_more, rules)

pub returns : goal.returns
returns c = search (text_none, rules)
