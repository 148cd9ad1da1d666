use Rattle.range_check.proofs.Tests.{rest_no, rest_yes}
use Rattle.range_check.proofs.ranges.Goals as goal

pub rest-requires : goal.rest-requires
rest-requires c = (c.requires.1, c.requires.2, c.requires.3)

pub returns-then-rest : goal.returns-then-rest
returns-then-rest c = rest_yes _ _ c.rest.result c.requires.0 c.requires.3 c.rest.ensures c.if-rest.true c.voices.ensures

pub returns-else-rest : goal.returns-else-rest
returns-else-rest c = rest_no _ _ c.rest.result c.requires.0 c.requires.3 c.rest.ensures c.if-rest.false
