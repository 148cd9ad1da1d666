use mir.Syntax.{w16, w32}
use Rattle.fixed.proofs.Number.{Num, arg, ok, said, prod, hold, need, is, range, wide}
use Rattle.reverb_turn.proofs.scaled_sample.Goals as goal

abbrev x : goal.Start → Num
x c = arg c.ranges.x

abbrev p : goal.After-product → Num
p c = prod (hold w32 (x c.before.before) tt) (said (ok w16 c.volume.result c.volume.type_inv) c.volume.ensures) c.product.ensures tt

pub overflow_cast-x : goal.overflow_cast-x
overflow_cast-x c = need (x c) tt

pub product-requires : goal.product-requires
product-requires c = wide (range (hold w32 (x c.before) tt)) tt

pub returns : goal.returns
returns c = (is (p c), wide (range (p c)) tt)
