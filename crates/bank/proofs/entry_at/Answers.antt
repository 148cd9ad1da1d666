use Rattle.bank.proofs.Laws.{entry_as}
use Rattle.bank.proofs.entry_at.Goals as goal

pub returns : goal.returns
returns c = search entry_as
