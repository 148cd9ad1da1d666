use borrow.Author.Rules.{rules}
use lib.ListN.{get_or}
use Rattle.layout.proofs.Tail.{tail_none, tail_more, tail_end}
use Rattle.layout.proofs.put_tail.Goals as goal

pub loop-i-init : goal.loop-i-init
loop-i-init c = tail_none _ _

pub loop-i-preserved : goal.loop-i-preserved
loop-i-preserved c = tail_more (λ j. get_or c.args.words.now j 0) _ _ c.loop-i.invariant

pub returns : goal.returns
returns c = tail_end _ _ _ _ c.loop-i.invariant (search rules) (search rules)
