use mathlib.Core.Path.{refl}
use borrow.Author.Rules.{rules}
use Rattle.transfer.proofs.Whole.{marked_none, marked_more}
use Rattle.transfer.proofs.mark_all.Goals as goal

pub loop-i-init : goal.loop-i-init
loop-i-init c = (search rules, refl, marked_none _ _)

pub loop-i-preserved : goal.loop-i-preserved
loop-i-preserved c =
    let v = c.loop-i.invariant in
    (search rules, search (rules, v.1), marked_more _ _ _ _ v.2 c.bits-mask.ensures c.in_byte-m.ensures.0 (search rules))
