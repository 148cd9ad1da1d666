use borrow.Author.Rules.{rules}
use Rattle.little_endian.proofs.Puts.{put_none}
use Rattle.bank_write.proofs.Bytes.{data_more, data_end}
use Rattle.bank_write.proofs.put_data.Goals as goal

pub loop-n-init : goal.loop-n-init
loop-n-init c = put_none _ _

pub loop-n-preserved : goal.loop-n-preserved
loop-n-preserved c = data_more _ _ c.loop-n.invariant (search rules) (search rules)

pub returns : goal.returns
returns c = data_end _ _ c.loop-n.invariant c.loop-n-test.false
