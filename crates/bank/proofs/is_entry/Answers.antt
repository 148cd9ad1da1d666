use Rattle.bank.proofs.Laws.{entry_tested}
use Rattle.bank.proofs.is_entry.Goals as goal

pub returns : goal.returns
returns c = search entry_tested
