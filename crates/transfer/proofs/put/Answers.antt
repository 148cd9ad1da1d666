use Rattle.soundram.proofs.Addresses.{forward_below}
use Rattle.transfer.proofs.Moves.{put_does}
use Rattle.transfer.proofs.put.Goals as goal

pub returns : goal.returns
returns c =
    (put_does _ _ _ c.write-watch.ensures c.forward.ensures, forward_below _ _ _ 2 c.forward.ensures c.requires.1)
