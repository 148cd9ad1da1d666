use borrow.Author.Rules.{rules}
use Rattle.register_write.specs.Keys.{stop_voices}
use Rattle.register_write.proofs.Work.{stop_none_in, stop_more_in, holds_end}
use Rattle.register_write.proofs.stop_all.Goals as goal

pub loop-n-init : goal.loop-n-init
loop-n-init c = search stop_none_in

pub loop-n-preserved : goal.loop-n-preserved
loop-n-preserved c = search stop_more_in

pub returns : goal.returns
returns c = holds_end (stop_voices _) _ _ c.loop-n.invariant (search rules) c.loop-n-test.false
