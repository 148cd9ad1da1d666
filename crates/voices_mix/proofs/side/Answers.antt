use mir.Syntax.{w32}
use Rattle.fixed.specs.Arithmetic.{product_of}
use Rattle.fixed.proofs.Number.{Num, arg, hold, mul, shr, need, is, range, wide}
use Rattle.voices_mix.proofs.side.Goals as goal

abbrev a : goal.Start → Num
a c = arg c.ranges.amplitude

abbrev b : goal.Start → Num
b c = arg c.ranges.volume

abbrev p : goal.Start → Num
p c = mul (hold w32 (a c) tt) (hold w32 (b c) tt)

abbrev q : goal.Start → Num
q c = hold w32 (shr 0x8000 tt (hold w32 (p c) tt)) tt

pub overflow_cast-result : goal.overflow_cast-result
overflow_cast-result c = need (a c) tt

pub overflow_cast-result-2 : goal.overflow_cast-result-2
overflow_cast-result-2 c = need (b c) tt

pub overflow_mul-result : goal.overflow_mul-result
overflow_mul-result c = need (p c) tt

pub returns : goal.returns
unfolding product_of
returns c = (is (q c), wide (range (q c)) tt)
