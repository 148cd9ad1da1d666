use Rattle.range_check.proofs.Tests.{rest_tested}
use Rattle.range_check.proofs.rest.Goals as goal

pub returns : goal.returns
returns c =
    rest_tested _ _ _ c.requires.0 c.requires.1 c.requires.2 c.halfword_of-base.ensures c.wide-place.ensures c.wide-transfer.ensures c.wide-timer.ensures
