use borrow.Author.Rules.{rules}
use Rattle.fixed.proofs.Bools.{all_none}
use Rattle.transfer.proofs.Whole.{tested_more}
use Rattle.transfer.proofs.all_marked.Goals as goal

pub loop-i-init : goal.loop-i-init
loop-i-init c = (search rules, all_none _)

pub loop-i-preserved : goal.loop-i-preserved
loop-i-preserved c =
    let v = c.loop-i.invariant in
    (search rules, tested_more _ _ _ _ v.1 c.bits-mask.ensures c.in_byte-m.ensures.0)
