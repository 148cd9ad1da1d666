use mir.Syntax.{w32, w64}
use Rattle.fixed.specs.Arithmetic.{product_of}
use Rattle.fixed.proofs.Number.{Num, arg, arg_in, need, is, hold, mul, shr}
use Rattle.fixed.proofs.product.Goals as goal

abbrev a : goal.Start → Num
a c = arg_in c.ranges.a c.requires

abbrev b : goal.Start → Num
b c = arg c.ranges.b

abbrev p : goal.Start → Num
p c = mul (hold w64 (a c) tt) (hold w64 (b c) tt)

abbrev q : goal.Start → Num
q c = hold w64 (shr 0x8000 tt (hold w64 (p c) tt)) tt

pub returns : goal.returns
unfolding product_of
returns c = is (hold w32 (q c) tt)

pub overflow_cast-p : goal.overflow_cast-p
overflow_cast-p c = need (a c) tt

pub overflow_cast-p-2 : goal.overflow_cast-p-2
overflow_cast-p-2 c = need (b c) tt

pub overflow_mul-p : goal.overflow_mul-p
overflow_mul-p c = need (p c) tt

pub overflow_cast-result : goal.overflow_cast-result
overflow_cast-result c = need (q c) tt
