use mathlib.Core.Path.{◌≡◌}
use Prim.Native.Nat.{ℕ, ◌+◌, ◌*◌, ◌≤◌, ◌<◌}
use native.Mathlib.Omega.{arith}
use borrow.Author.Rules.{rules}
use Rattle.xa.proofs.Laws.{channel_none, channel_more, channel_all, step_below}
use Rattle.xa.proofs.channel.Goals as goal

-- the units of the channel up to the one at hand are among the sector's
within : (n count step : ℕ) → count * step ≡ 144 → n < count → (n + 1) * step ≤ 144
within n count step e h = rw (← e) (step_below (n + 1) count step (omega arith))

pub loop-n-init : goal.loop-n-init
loop-n-init c = channel_none

pub overflow_mul-skip : goal.overflow_mul-skip
overflow_mul-skip c = record { fits = omega (arith, within _ _ _ c.requires.3 c.loop-n-test.true) }

pub overflow_add-first : goal.overflow_add-first
overflow_add-first c = record { fits = omega (arith, within _ _ _ c.requires.3 c.loop-n-test.true) }

pub overflow_mul-skip-in-loop-n : goal.overflow_mul-skip-in-loop-n
overflow_mul-skip-in-loop-n c = record { fits = omega (arith, within _ _ _ c.requires.3 c.loop-n-test.true) }

pub overflow_add-first-in-loop-n : goal.overflow_add-first-in-loop-n
overflow_add-first-in-loop-n c = record { fits = omega (arith, within _ _ _ c.requires.3 c.loop-n-test.true) }

pub unit-h-requires : goal.unit-h-requires
unit-h-requires c = (search rules, omega (arith, within _ _ _ c.requires.3 c.loop-n-test.true), search rules, omega (arith, within _ _ _ c.requires.3 c.loop-n-test.true))

pub loop-n-preserved : goal.loop-n-preserved
loop-n-preserved c = channel_more c.loop-n.invariant (c.unit-h.ensures.0, search rules)

pub returns : goal.returns
returns c = channel_all c.loop-n.invariant (omega arith) c.loop-n-test.false
