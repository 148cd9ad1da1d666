use mir.Syntax.{w16, w32}
use Rattle.fixed.proofs.Number.{Num, arg, nat, prod, hold, need, is, range, wide}
use Rattle.voice_sound.proofs.scaled.Goals as goal

abbrev x : goal.Start → Num
x c = arg c.ranges.x

abbrev a : goal.After-product → Num
a c = prod (hold w32 (x c.before) tt) (nat w16 {n = c.args.level} 0x7FFF c.requires tt) c.product.ensures tt

pub overflow_cast-x : goal.overflow_cast-x
overflow_cast-x c = need (x c) tt

pub product-requires : goal.product-requires
product-requires c = wide (range (hold w32 (x c) tt)) tt

pub overflow_cast-result : goal.overflow_cast-result
overflow_cast-result c = need (a c) tt

pub returns : goal.returns
returns c = is (hold w16 (a c) tt)
