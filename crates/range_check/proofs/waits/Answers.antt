use borrow.Author.Rules.{rules}
use Rattle.fixed.proofs.Bools.{all_none, all_more, all_tested}
use Rattle.range_check.proofs.Tests.{wait_tested}
use Rattle.range_check.proofs.waits.Goals as goal

pub loop-n-init : goal.loop-n-init
loop-n-init c = all_none _

pub loop-n-preserved : goal.loop-n-preserved
loop-n-preserved c = all_more _ _ c.loop-n.invariant (wait_tested _ _ (search rules) c.wait-wait.ensures)

pub returns : goal.returns
returns c = all_tested _ _ _ c.loop-n.invariant (search rules) c.loop-n-test.false
