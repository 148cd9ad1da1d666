use Rattle.std.proofs.Common.{ap}
use Rattle.fixed.specs.Bits.{bit}
use Rattle.tick.proofs.control.Goals as goal

pub returns : goal.returns
returns c = ap (bit _) c.at.ensures
