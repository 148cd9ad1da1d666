use native.Mathlib.Omega.{arith}
use Rattle.range_check.proofs.Tests.{size_large, size_small, size_other}
use borrow.Author.Rules.{rules}
use Rattle.range_check.proofs.check.Goals as goal

pub ranges-requires : goal.ranges-requires
ranges-requires c = let e = c.in-524288.is in (c.requires, c.size-size.ensures, size_large _ e, omega arith)

pub ranges-requires-in-65536 : goal.ranges-requires-in-65536
ranges-requires-in-65536 c = let e = c.in-65536.is in (c.requires, c.size-size.ensures, size_small _ e, omega arith)

pub returns-in_default : goal.returns-in_default
returns-in_default c = search (size_other, rules)
