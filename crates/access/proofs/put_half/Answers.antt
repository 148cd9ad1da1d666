use Prim.Native.Nat.{◌/◌}
use Rattle.soundram.proofs.Halfwords.{put_bytes}
use Rattle.access.proofs.put_half.Goals as goal

pub returns : goal.returns
returns c = rw c.to_le_bytes.ensures (put_bytes _ (c.args.a.0 / 2) _ c.ranges.v.fits)
