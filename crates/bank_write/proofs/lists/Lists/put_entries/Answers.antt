use native.Mathlib.Omega.{arith}
use Rattle.little_endian.proofs.Puts.{each_none, each_more, each_end}
use Rattle.bank_write.proofs.Bytes.{entry_length}
use Rattle.bank_write.proofs.lists.Lists.put_entries.Goals as goal

pub loop-n-init : goal.loop-n-init
loop-n-init c = each_none _ _ _

pub loop-n-preserved : goal.loop-n-preserved
loop-n-preserved c = each_more _ 10 _ (λ k. entry_length _) c.loop-n.invariant (rw c.entry.ensures at c.put_entry.ensures)

pub returns : goal.returns
returns c = each_end _ _ _ c.loop-n.invariant (omega (arith, c.count-n-end.ensures)) (omega (arith, c.count-n-end.ensures))
