use mathlib.Core.Path.{refl, sym, ◌∙◌}
use mir.Facts.{to_z-of_z}
use Rattle.layout.specs.Layout.{voice_in}
use Rattle.pitch.proofs.Laws.{step_most}
use Rattle.fast_path.proofs.Stays.{tone_counter, tone_target, tone_amplitude, step_small, plain_counter, plain_target, plain_amplitude}
use Rattle.fast_path.proofs.stay.Goals as goal

pub moved-requires : goal.moved-requires
moved-requires c =
    (c.requires.0, c.requires.2, c.requires.3, c.requires.4, step_small _ (sym c.in-Some.is ∙ c.requires.1))

pub returns-in-Some : goal.returns-in-Some
returns-in-Some c =
    let e = c.moved.ensures in
    let h = sym c.in-Some.is ∙ c.requires.1 in
    let v = voice_in c.args.state.now c.args.n in
    (plain_counter _ h _ v e.0, plain_target _ h _ _ e.1, e.2, plain_amplitude _ h c.args.below _ _ _ _ refl e.3)

pub moved-requires-2 : goal.moved-requires-2
moved-requires-2 c =
    (c.requires.0, c.requires.2, c.requires.3, c.requires.4, rw c.step.ensures (step_most _ _ _))

pub returns : goal.returns
returns c =
    let e = c.moved-2.ensures in
    let k = c.tone-s.ensures in
    let b = to_z-of_z c.ranges.below in
    let v = voice_in c.args.state.now c.args.n in
    (tone_counter k _ v b c.step.ensures e.0, tone_target k _ _ b c.step.ensures e.1, e.2, tone_amplitude k c.args.below _ _ e.3)
