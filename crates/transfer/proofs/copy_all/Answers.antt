use borrow.Author.Rules.{rules}
use Rattle.soundram.specs.Memory.{half}
use Rattle.transfer.proofs.Whole.{copied_none, copied_more}
use Rattle.transfer.proofs.copy_all.Goals as goal

pub loop-i-init : goal.loop-i-init
loop-i-init c = copied_none _ _ _

pub loop-i-preserved : goal.loop-i-preserved
unfolding half
loop-i-preserved c = copied_more _ _ _ _ c.loop-i.invariant (search rules)
