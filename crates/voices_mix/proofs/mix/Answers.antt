use mathlib.Core.Path.{refl}
use Prim.Native.Nat.{◌<◌}
use native.Mathlib.Omega.{arith}
use borrow.Author.Rules.{rules}
use Rattle.voices.specs.Voices.{no_sums, mixed_of}
use Rattle.voices_mix.proofs.Shares.{joined_in, sides_few, silent_in, sides_end, mixed_dry, mixed_wet, mixed_all}
use Rattle.voices_mix.proofs.mix.Goals as goal

pub loop-n-init : goal.loop-n-init
unfolding no_sums mixed_of
loop-n-init c = (omega arith, refl, refl, silent_in, silent_in)

pub join-dry-requires : goal.join-dry-requires
join-dry-requires c =
    (sides_few _ _ (omega (arith, c.loop-n-test.true)) c.loop-n.invariant.3, c.both_sides.ensures.1)

pub join-wet-requires : goal.join-wet-requires
join-wet-requires c =
    (sides_few _ _ (omega (arith, c.loop-n-test.true)) c.loop-n.invariant.4, c.both_sides-in-loop-n.ensures.1)

pub loop-n-preserved : goal.loop-n-preserved
loop-n-preserved c =
    let v = c.loop-n.invariant in
    let h : c.loop-n.n < 24 = omega (arith, c.loop-n-test.true) in (
      omega arith,
      mixed_dry _ _ _ _ c.requires h (search (rules, c.amplitudes-1.given)) v.1 c.both_sides.ensures.0 c.join-dry.ensures,
      mixed_wet _ _ _ _ c.requires h (search (rules, c.amplitudes-1.given)) v.2 c.both_sides-in-loop-n.ensures.0 c.join-wet.ensures,
      joined_in _ _ _ c.join-dry.ensures v.3 c.both_sides.ensures.1,
      joined_in _ _ _ c.join-wet.ensures v.4 c.both_sides-in-loop-n.ensures.1,
    )

pub returns : goal.returns
returns c =
    let v = c.loop-n.invariant in
    let h = c.loop-n-test.false in (
      mixed_all _ _ _ v.1 v.2 v.0 h (search (rules, c.result-1.given)) (search (rules, c.captured-1.given)) (search (rules, c.captured-2-1.given)),
      record { dry = sides_end v.3 v.0 h; wet = sides_end v.4 v.0 h },
    )
