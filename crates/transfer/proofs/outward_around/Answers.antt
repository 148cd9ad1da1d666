use Rattle.soundram.proofs.Addresses.{forward_below}
use Rattle.soundram.proofs.Programs.{repeat_none, repeat_more, repeat_end}
use Rattle.transfer.specs.Transfer.{outward_of}
use Rattle.transfer.proofs.Moves.{get_does}
use Rattle.transfer.proofs.outward_around.Goals as goal

pub loop-x-init : goal.loop-x-init
loop-x-init c = (c.requires.0, c.requires.1, repeat_none _ _ _)

pub loop-x-preserved : goal.loop-x-preserved
loop-x-preserved c =
    let v = c.loop-x.invariant in
    (v.0, forward_below _ _ _ 2 c.forward-address.ensures v.1, repeat_more _ _ _ _ _ v.2 (get_does _ _ _ _ c.read-got.ensures c.forward-address.ensures))

pub returns : goal.returns
unfolding outward_of
returns c = repeat_end _ _ _ _ _ c.loop-x.invariant.2 c.loop-x.auto.x-index-end c.loop-x-test.false
