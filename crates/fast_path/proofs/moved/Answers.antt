use native.Mathlib.Omega.{arith}
use mir.Syntax.{w16}
use Rattle.layout.specs.Layout.{voice_in}
use Rattle.fixed.proofs.Number.{passed}
use Rattle.fast_path.proofs.Stays.{amplitude_here, moved_here, small_here}
use Rattle.fast_path.proofs.moved.Goals as goal

pub overflow_add-result : goal.overflow_add-result
overflow_add-result c =
    let l = small_here (voice_in c.args.state.now c.args.n) _ c.position-q.ensures c.advance-p.ensures c.requires.1 c.requires.2 c.requires.4 in
    record { fits = omega arith }

pub returns : goal.returns
returns c =
    let v = voice_in c.args.state.now c.args.n in
    let m = moved_here v _ c.position-q.ensures c.advance-p.ensures in
    (m.0, m.1, small_here v _ c.position-q.ensures c.advance-p.ensures c.requires.1 c.requires.2 c.requires.4, amplitude_here _ _ _ (passed w16 c.sound.type_inv c.sound.ensures) c.level.ensures (passed w16 c.scaled-x.type_inv c.scaled-x.ensures))
