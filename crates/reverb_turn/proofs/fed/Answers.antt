use mir.Syntax.{w32}
use Rattle.fixed.proofs.Number.{Num, arg, need, is, range, hold, add, wide}
use Rattle.reverb.proofs.Turns.{scaled}
use Rattle.reverb_turn.proofs.fed.Goals as goal

abbrev b : goal.After-scaled_sample → Num
b c = arg c.ranges.b

abbrev sum : goal.After-scaled_sample → Num
sum c = add (scaled _ _ c.ranges.x c.scaled_sample.ensures) (hold w32 (b c) tt)

pub overflow_cast-result : goal.overflow_cast-result
overflow_cast-result c = need (b c) tt

pub overflow_add-result : goal.overflow_add-result
overflow_add-result c = need (sum c) tt

pub returns : goal.returns
returns c = let r = hold w32 (sum c) tt in (is r, wide (range r) tt)
