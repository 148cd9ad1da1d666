use Rattle.bank_write.proofs.Bytes.{entry_put}
use Rattle.bank_write.proofs.put_entry.Goals as goal

pub returns : goal.returns
returns c = search entry_put
