use Rattle.transfer.proofs.Marks.{bits_order}
use Rattle.transfer.proofs.bits.Goals as goal

pub overflow_sub-result : goal.overflow_sub-result
overflow_sub-result c = bits_order _ _ c.requires
