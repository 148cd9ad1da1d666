use Rattle.transfer.specs.Whole.{passed_of}
use Rattle.transfer.proofs.passed.Goals as goal

pub returns : goal.returns
unfolding passed_of
returns c = c.noticed.ensures
