use Rattle.layout.proofs.Made.{begun}
use Rattle.layout.proofs.begin.Goals as goal

pub returns : goal.returns
returns c = begun _ _ c.clear.ensures c.low.ensures c.high.ensures
