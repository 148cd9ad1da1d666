use native.Mathlib.Omega.{arith}
use mir.Syntax.{w32}
use Rattle.fixed.specs.Range.{In}
use Rattle.fixed.proofs.Number.{Num, nat, res, add, need, hold, is}
use Rattle.envelope.proofs.Rates.{rate_value}
use Rattle.envelope.proofs.Steps.{step_in}
use Rattle.envelope.proofs.Ticks.{moved_as}
use Rattle.envelope_tick.proofs.moved.Goals as goal

value : (c : goal.After-rate-rate) → In 8 7 c.rate-rate.result.value
value c = search rate_value

-- the level and the step
abbrev sum : goal.After-step → Num
sum c =
    add (nat w32 {n = c.args.level} 0xFFFF (omega arith) tt)
    (res w32 c.step.ensures (step_in _ _ (value c.before) (omega arith)) tt)

pub step-requires : goal.step-requires
step-requires c = value c

pub overflow_add-level : goal.overflow_add-level
overflow_add-level c = need (sum c) tt

pub returns : goal.returns
returns c = let s = is (hold w32 (sum c.before.before.before) tt) in search moved_as
