use borrow.Author.Rules.{rules}
use Rattle.fixed.proofs.Number.{passed}
use Rattle.encoder_check.proofs.Laws.{samples_by}
use Rattle.encoder_check.proofs.samples_at.Goals as goal

pub returns : goal.returns
returns c = search (samples_by, passed, rules)
