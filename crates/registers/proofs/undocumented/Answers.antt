use Rattle.registers.proofs.Masks.{under_mask}
use Rattle.registers.proofs.undocumented.Goals as goal

pub returns : goal.returns
returns c = search under_mask
