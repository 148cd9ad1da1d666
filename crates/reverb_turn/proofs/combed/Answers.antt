use mir.Syntax.{w32}
use Rattle.fixed.proofs.Number.{Num, need, is, range, hold, add, wide}
use Rattle.reverb.specs.Reverb.{combed_of}
use Rattle.reverb.proofs.Turns.{scaled}
use Rattle.reverb_turn.proofs.combed.Goals as goal

abbrev two : goal.After-scaled_sample-2 → Num
two c =
    let f = c.ranges in
    add (scaled _ 0x1C6 f.a c.scaled_sample.ensures) (scaled _ 0x1C8 f.b c.scaled_sample-2.ensures)

abbrev three : goal.After-scaled_sample-3 → Num
three c = add (hold w32 (two c.before) tt) (scaled _ 0x1CA c.ranges.c c.scaled_sample-3.ensures)

abbrev four : goal.After-scaled_sample-4 → Num
four c = add (hold w32 (three c.before) tt) (scaled _ 0x1CC c.ranges.d c.scaled_sample-4.ensures)

pub overflow_add-result : goal.overflow_add-result
overflow_add-result c = need (two c) tt

pub overflow_add-result-2 : goal.overflow_add-result-2
overflow_add-result-2 c = need (three c) tt

pub overflow_add-result-3 : goal.overflow_add-result-3
overflow_add-result-3 c = need (four c) tt

pub returns : goal.returns
unfolding combed_of
returns c = let r = hold w32 (four c) tt in (is r, wide (range r) tt)
