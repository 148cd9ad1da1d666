use mathlib.Core.Path.{ap, ◌∙◌}
use borrow.Author.Rules.{rules}
use mir.Syntax.{w16, w32}
use Rattle.fixed.specs.Arithmetic.{saturated}
use Rattle.fixed.proofs.Number.{Num, arg, arg_in, passed, need, is, range, hold, add, sub, wide}
use Rattle.reverb.specs.Reverb.{reflected_of}
use Rattle.reverb.proofs.Turns.{scaled, scaled_sum}
use Rattle.reverb_turn.proofs.reflected.Goals as goal

abbrev sum : goal.After-scaled_sample → Num
sum c = add (arg_in c.ranges.input c.requires) (scaled _ 0x1CE c.ranges.a c.scaled_sample.ensures)

abbrev b : goal.After-scaled_sample → Num
b c = arg c.ranges.b

abbrev x : goal.After-scaled_sample → Num
x c = sub (hold w32 (sum c) tt) (hold w32 (b c) tt)

abbrev out : goal.After-scaled-change → Num
out c =
    let y = hold w32 (x c.before) tt in
    add (scaled_sum _ 0x1C4 y c.scaled-change.ensures) (hold w32 (arg c.ranges.c) tt)

pub overflow_add-input : goal.overflow_add-input
overflow_add-input c = need (sum c) tt

pub overflow_cast-b : goal.overflow_cast-b
overflow_cast-b c = need (b c) tt

pub overflow_sub-input : goal.overflow_sub-input
overflow_sub-input c = need (x c) tt

pub scaled-change-requires : goal.scaled-change-requires
scaled-change-requires c = (wide (range (hold w32 (x c) tt)) tt, search rules)

pub overflow_cast-c : goal.overflow_cast-c
overflow_cast-c c = need (arg c.ranges.c) tt

pub overflow_add-change : goal.overflow_add-change
overflow_add-change c = need (out c) tt

pub returns : goal.returns
unfolding reflected_of
returns c = passed w16 c.saturate.type_inv (c.saturate.ensures ∙ ap saturated (is (hold w32 (out c.before) tt)))
