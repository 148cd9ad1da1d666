use mir.Syntax.{w32}
use Rattle.fixed.proofs.Number.{Num, arg, res_in, prod, is, range, wide}
use Rattle.gauss.proofs.Table.tap.Goals as goal

abbrev entry : goal.After-factor → Num
entry c = res_in w32 c.factor.ensures.0 c.factor.ensures.1 tt

pub product-requires : goal.product-requires
product-requires c = wide (range (entry c)) tt

pub returns : goal.returns
returns c = let r = prod (entry c.before) (arg c.ranges.sample) c.product.ensures tt in (is r, range r)
