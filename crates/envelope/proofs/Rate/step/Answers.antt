use mathlib.Core.Path.{◌∙◌, ap}
use native.Mathlib.Omega.{arith}
use lib.IntN.{pos}
use mir.Syntax.{w32}
use Rattle.fixed.specs.Range.{In}
use Rattle.fixed.specs.Arithmetic.{product_of}
use Rattle.fixed.proofs.Number.{Num, fit, arg_in, nat, said, mul, shr, hold, need, is}
use Rattle.envelope.proofs.Steps.{power_in, step_scaled, step_plain}
use Rattle.envelope.proofs.Rate.step.Goals as goal

power : (c : goal.After-power) → In 0 2048 (pos c.power.result)
power c = rw c.power.ensures (power_in c.args.self.shift)

-- the product of the value and the power, and that times the level
abbrev full : goal.After-power → Num
full c =
    let i = c.requires in
    mul (arg_in {w = w32} (fit i tt) i) (said (nat w32 2048 (power c).top tt) (ap pos c.power.ensures))

abbrev scaled : goal.After-power → Num
scaled c = mul (hold w32 (full c) tt) (nat w32 {n = c.args.level} 0xFFFF (omega arith) tt)

pub overflow_cast-full : goal.overflow_cast-full
overflow_cast-full c = fit (power c) tt

pub overflow_mul-full : goal.overflow_mul-full
overflow_mul-full c = need (full c.before.before.before) tt

pub overflow_mul-result : goal.overflow_mul-result
overflow_mul-result c = need (scaled c.before.before.before.before) tt

pub returns-then-self : goal.returns-then-self
unfolding product_of
returns-then-self c = is (hold w32 (shr 0x8000 tt (hold w32 (scaled c.before.before.before.before) tt)) tt) ∙ search step_scaled

pub returns-else-self : goal.returns-else-self
returns-else-self c = is (hold w32 (full c.before.before.before.before) tt) ∙ search step_plain
