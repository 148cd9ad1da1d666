use Prim.Native.Nat.{◌/◌}
use Rattle.soundram.proofs.Halfwords.{mark_shifted}
use Rattle.access.proofs.set_mark.Goals as goal

pub returns : goal.returns
returns c = mark_shifted _ (c.args.a.0 / 2)
