use Rattle.transfer.proofs.Whole.{stored_none, stored_more}
use Rattle.transfer.proofs.store_all.Goals as goal

pub loop-i-init : goal.loop-i-init
loop-i-init c = stored_none _ _ _

pub loop-i-preserved : goal.loop-i-preserved
loop-i-preserved c = rw c.to_le_bytes.ensures (stored_more _ _ _ _ c.loop-i.invariant (c.type_inv.values _).fits)
