use native.Mathlib.Omega.{arith}
use Rattle.soundram.proofs.Programs.{lent_after, repeat_none, repeat_more, repeat_end}
use Rattle.reverb.proofs.Turns.{two_triples, passes_does}
use Rattle.reverb_turn.proofs.all_passes.Goals as goal

pub loop-v-init : goal.loop-v-init
loop-v-init c = (c.requires.0, repeat_none _ _ _, c.requires.1)

pub all_pass-sum-requires : goal.all_pass-sum-requires
all_pass-sum-requires c =
    let v = c.loop-v.invariant in
    let h = c.side-s.ensures.1 in
    let p = two_triples (omega arith, omega arith, omega arith) (omega arith, omega arith, omega arith) c.loop-v.v-index in
    (v.0, v.2, p.0, p.1, p.2)

pub loop-v-preserved : goal.loop-v-preserved
loop-v-preserved c =
    let v = c.loop-v.invariant in
    let p = c.all_pass-sum.ensures in (lent_after p.0 v.0, repeat_more _ _ _ _ _ v.1 p.0, p.1)

pub returns : goal.returns
returns c =
    let v = c.loop-v.invariant in
    (passes_does _ _ _ _ c.side-s.ensures.0 (repeat_end _ _ _ _ _ v.1 c.loop-v.auto.v-index-end c.loop-v-test.false), v.2)
