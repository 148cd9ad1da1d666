use Rattle.bank_write.specs.Handed.{handed}
use Rattle.bank_write.proofs.Bytes.{header_put}
use Rattle.bank_write.proofs.lists.Lists.put_header.Goals as goal

pub returns : goal.returns
returns c = header_put (handed c.args.self.now) c.count.ensures c.put_half.ensures c.put_entries.ensures
