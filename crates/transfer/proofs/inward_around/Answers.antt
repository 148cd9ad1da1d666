use Rattle.soundram.proofs.Programs.{lent_after, repeat_none, repeat_more, repeat_end}
use Rattle.transfer.specs.Transfer.{inward_of}
use Rattle.transfer.proofs.inward_around.Goals as goal

pub loop-value-init : goal.loop-value-init
loop-value-init c = (c.requires.0, c.requires.1, repeat_none _ _ _)

pub loop-value-preserved : goal.loop-value-preserved
loop-value-preserved c =
    let v = c.loop-value.invariant in
    let p = c.put-m.ensures in
    (lent_after p.0 v.0, p.1, repeat_more _ _ _ _ _ v.2 p.0)

pub returns : goal.returns
unfolding inward_of
returns c = repeat_end _ _ _ _ _ c.loop-value.invariant.2 c.loop-value.auto.value-index-end c.loop-value-test.false
