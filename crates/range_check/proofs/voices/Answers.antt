use Rattle.range_check.proofs.Tests.{fields_no, fields_yes}
use Rattle.range_check.proofs.voices.Goals as goal

pub returns-then-fields : goal.returns-then-fields
returns-then-fields c = fields_yes _ _ _ c.fields.ensures c.if-fields.true c.waits.ensures

pub returns-else-fields : goal.returns-else-fields
returns-else-fields c = fields_no _ _ _ c.fields.ensures c.if-fields.false
