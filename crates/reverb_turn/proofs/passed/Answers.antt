use mathlib.Core.Path.{ap, ◌∙◌}
use mir.Syntax.{w16, w32}
use Rattle.fixed.specs.Arithmetic.{saturated}
use Rattle.fixed.proofs.Number.{Num, arg_in, passed, need, is, hold, sub}
use Rattle.reverb.proofs.Turns.{scaled}
use Rattle.reverb_turn.proofs.passed.Goals as goal

abbrev x : goal.After-scaled_sample → Num
x c = sub (arg_in c.ranges.out c.requires.0) (scaled _ _ c.ranges.a c.scaled_sample.ensures)

pub overflow_sub-out : goal.overflow_sub-out
overflow_sub-out c = need (x c) tt

pub returns : goal.returns
returns c = passed w16 c.saturate.type_inv (c.saturate.ensures ∙ ap saturated (is (hold w32 (x c.before) tt)))
