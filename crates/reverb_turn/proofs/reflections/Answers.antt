use mathlib.Core.Path.{◌∙◌}
use native.Mathlib.Omega.{arith}
use mir.Syntax.{w32}
use mir.Facts.{to_z-of_z}
use Rattle.fixed.proofs.Number.{ok, is, passed_in}
use Rattle.soundram.proofs.Programs.{lent_after, repeat_none, repeat_more, repeat_end}
use Rattle.reverb.proofs.Turns.{two_pairs, reflections_does}
use Rattle.reverb_turn.proofs.reflections.Goals as goal

pub loop-m-init : goal.loop-m-init
loop-m-init c = (c.requires, repeat_none _ _ _)

pub reflection-watch-requires : goal.reflection-watch-requires
reflection-watch-requires c =
    let h = c.side-s.ensures.1 in
    let i = c.side-o.ensures.1 in
    let p = two_pairs (omega arith, omega arith) (omega arith, omega arith) c.loop-m.m-index in
    (c.loop-m.invariant.0, passed_in w32 c.scaled_sample-x.ensures.1 tt, p.0, p.1)

pub loop-m-preserved : goal.loop-m-preserved
loop-m-preserved c =
    let v = c.loop-m.invariant in
    let p = c.reflection-watch.ensures in (lent_after p v.0, repeat_more _ _ _ _ _ v.1 p)

pub returns : goal.returns
returns c =
    reflections_does _ _ _ _ c.side-s.ensures.0 c.side-o.ensures.0 (to_z-of_z c.ranges.input) (is (ok w32 _ c.scaled_sample-x.type_inv) ∙ c.scaled_sample-x.ensures.0) (repeat_end _ _ _ _ _ c.loop-m.invariant.1 c.loop-m.auto.m-index-end c.loop-m-test.false)
