use borrow.Author.Rules.{rules}
use mathlib.Core.Path.{refl}
use Rattle.fixed.proofs.Bools.{all_none, all_more, all_tested}
use Rattle.range_check.proofs.fields.Goals as goal

pub loop-n-init : goal.loop-n-init
loop-n-init c = all_none _

pub loop-n-preserved : goal.loop-n-preserved
loop-n-preserved c = all_more _ _ c.loop-n.invariant refl

pub returns : goal.returns
returns c = all_tested _ _ _ c.loop-n.invariant (search rules) c.loop-n-test.false
