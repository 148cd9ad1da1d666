use Rattle.std.proofs.Common.{refl, to_z-of_z}
use Rattle.soundram.proofs.Programs.{lent_after}
use Rattle.tick.proofs.Parts.{close_does}
use Rattle.tick.proofs.close.Goals as goal

pub capture-captured-requires : goal.capture-captured-requires
capture-captured-requires c =
    (c.requires.0, c.requires.1.below)

pub turn-t-requires : goal.turn-t-requires
turn-t-requires c =
    (lent_after c.capture-captured.ensures c.requires.0, c.requires.2, c.mix-sums.ensures.1)

pub next-requires : goal.next-requires
next-requires c =
    c.requires.1.below

pub returns : goal.returns
returns c =
    let l = to_z-of_z c.ranges.left in
    let r = to_z-of_z c.ranges.right in
    close_does _ _ _ _ _ _ _ c.mix-sums.ensures.0 l r c.capture-captured.ensures l r c.turn-t.ensures l r c.mixed-pair.ensures c.at.ensures c.next.ensures refl
