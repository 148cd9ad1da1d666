use borrow.Author.Rules.{rules}
use lib.Bits.{and_le_l}
use Rattle.range_check.proofs.Tests.{unit_within}
use Rattle.range_check.proofs.halfword_of.Goals as goal

pub overflow_cast-result : goal.overflow_cast-result
overflow_cast-result c = let m = and_le_l c.args.unit c.args.last in search rules

pub overflow_mul-result : goal.overflow_mul-result
overflow_mul-result c = let m = and_le_l c.args.unit c.args.last in search rules

pub returns : goal.returns
returns c = unit_within _ _ (search rules)
