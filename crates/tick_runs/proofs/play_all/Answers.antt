use borrow.Author.Rules.{rules}
use mathlib.Core.Path.{refl, sym, ap, ◌∙◌}
use mathlib.Core.Bool.{not}
use Rattle.pitch.proofs.Laws.{moved_counter}
use Rattle.soundram.specs.declared.Reader.{Reader}
use Rattle.soundram.specs.Program.{mem_of}
use Rattle.voice.specs.Voice.{ready_of}
use Rattle.layout.specs.Layout.{voice_in}
use Rattle.tick_runs.specs.Run.{Becomes}
use Rattle.tick_runs.proofs.Voices.{ready_has, ready_none, ready_in_range, steps_stay, play_plays, idle_plays, played_none, played_in, played_more, played_all}
use Rattle.tick_runs.proofs.play_all.Goals as goal
use Rattle.tick_runs.proofs.play_all.Goals.{then-not-loaded, else-not-loaded}

pub loop-n-init : goal.loop-n-init
loop-n-init c =
    let z = c.requires in
    played_none _ z.1 z.2 refl

pub loop-n-preserved-then-is_idle : goal.loop-n-preserved-then-is_idle
loop-n-preserved-then-is_idle c =
    let z = c.requires in
    let p = c.loop-n.invariant in
    let h = c.loop-n-test.true in
    let i = c.is_idle.ensures in
    let t = c.if-is_idle.true in
    played_more p z.3.sized h (idle_plays _ _ _ _ _ _ _ p.holds.formed i t) refl

pub voice-v-requires : goal.voice-v-requires
voice-v-requires c =
    let p = c.loop-n.invariant in
    let h = c.loop-n-test.true in
    (h, p.holds.formed, (played_in p h).index)

pub load-watch-requires : goal.load-watch-requires
load-watch-requires c =
    let z = c.requires in
    let p = c.loop-n.invariant in
    let h = c.loop-n-test.true in
    let v = c.voice-v.ensures in
    let r = played_in p h in
    (h, p.holds.formed, rw v r.multiple, rw v r.below, z.3)

pub stay-m-requires : goal.stay-m-requires
stay-m-requires c =
    let z = c.requires in
    let p = c.loop-n.invariant in
    let h = c.loop-n-test.true in
    let g = c.loaded.ensures in
    -- the voice has a block, whichever way it came
    let b : Becomes c.loop-n.n (ready_of (Reader.Voice c.loop-n.n) c.args.size (voice_in c.loop-n.state c.loop-n.n)) c.loop-n.state
    (mem_of c.args.ram.now c.args.marks.now c.loop-n.watch) c.if-not-loaded.state (mem_of c.args.ram.now c.args.marks.now c.if-not-loaded.watch) =
    elim c.if-not-loaded.branch [
      | then-not-loaded w ↦ rw (w.state-is, w.watch-is) (ready_none _ _ _ g (ap not w.if-not-loaded.true) w.voice-v.ensures w.load-watch.ensures)
      | else-not-loaded w ↦ rw (w.state-is, w.watch-is) (ready_has _ _ _ _ p.holds.formed g (ap not w.if-not-loaded.false))
    ]
    in
    let r = ready_in_range _ _ _ h b (played_in p h) in
    (h, z.0.each _ h, r.counter, r.index, r.envelope.level)

pub pass_end-watch-requires : goal.pass_end-watch-requires
pass_end-watch-requires c =
    let z = c.requires in
    let p = c.loop-n.invariant in
    let h = c.loop-n-test.true in
    let g = c.loaded.ensures in
    -- the voice has a block, whichever way it came
    let b : Becomes c.loop-n.n (ready_of (Reader.Voice c.loop-n.n) c.args.size (voice_in c.loop-n.state c.loop-n.n)) c.loop-n.state
    (mem_of c.args.ram.now c.args.marks.now c.loop-n.watch) c.if-not-loaded.state (mem_of c.args.ram.now c.args.marks.now c.if-not-loaded.watch) =
    elim c.if-not-loaded.branch [
      | then-not-loaded w ↦ rw (w.state-is, w.watch-is) (ready_none _ _ _ g (ap not w.if-not-loaded.true) w.voice-v.ensures w.load-watch.ensures)
      | else-not-loaded w ↦ rw (w.state-is, w.watch-is) (ready_has _ _ _ _ p.holds.formed g (ap not w.if-not-loaded.false))
    ]
    in
    let m = c.stay-m.ensures in
    let t = c.if-m-gt27.true in
    (h, b.holds.formed, ready_in_range _ _ _ h b (played_in p h), rw m.0 (moved_counter _ _), t, m.2, z.3)

pub loop-n-preserved-then-m-gt27 : goal.loop-n-preserved-then-m-gt27
loop-n-preserved-then-m-gt27 c =
    let z = c.requires in
    let p = c.loop-n.invariant in
    let h = c.loop-n-test.true in
    let i = c.is_idle.ensures in
    let f = c.if-is_idle.false in
    let g = c.loaded.ensures in
    -- the voice has a block, whichever way it came
    let b : Becomes c.loop-n.n (ready_of (Reader.Voice c.loop-n.n) c.args.size (voice_in c.loop-n.state c.loop-n.n)) c.loop-n.state
    (mem_of c.args.ram.now c.args.marks.now c.loop-n.watch) c.if-not-loaded.state (mem_of c.args.ram.now c.args.marks.now c.if-not-loaded.watch) =
    elim c.if-not-loaded.branch [
      | then-not-loaded w ↦ rw (w.state-is, w.watch-is) (ready_none _ _ _ g (ap not w.if-not-loaded.true) w.voice-v.ensures w.load-watch.ensures)
      | else-not-loaded w ↦ rw (w.state-is, w.watch-is) (ready_has _ _ _ _ p.holds.formed g (ap not w.if-not-loaded.false))
    ]
    in
    let m = c.stay-m.ensures in
    let e = c.pass_end-watch.ensures in
    played_more p z.3.sized h (play_plays _ _ _ h b _ _ _ (sym i ∙ f) refl m.0 m.1 m.3 refl e) (search rules)

pub put_position-requires : goal.put_position-requires
put_position-requires c =
    let p = c.loop-n.invariant in
    let h = c.loop-n-test.true in
    let g = c.loaded.ensures in
    -- the voice has a block, whichever way it came
    let b : Becomes c.loop-n.n (ready_of (Reader.Voice c.loop-n.n) c.args.size (voice_in c.loop-n.state c.loop-n.n)) c.loop-n.state
    (mem_of c.args.ram.now c.args.marks.now c.loop-n.watch) c.if-not-loaded.state (mem_of c.args.ram.now c.args.marks.now c.if-not-loaded.watch) =
    elim c.if-not-loaded.branch [
      | then-not-loaded w ↦ rw (w.state-is, w.watch-is) (ready_none _ _ _ g (ap not w.if-not-loaded.true) w.voice-v.ensures w.load-watch.ensures)
      | else-not-loaded w ↦ rw (w.state-is, w.watch-is) (ready_has _ _ _ _ p.holds.formed g (ap not w.if-not-loaded.false))
    ]
    in
    (h, b.holds.formed)

pub step_envelope-requires : goal.step_envelope-requires
step_envelope-requires c =
    let z = c.requires in
    let h = c.loop-n-test.true in
    let q = c.put_position.ensures in
    (h, q.formed)

pub loop-n-preserved : goal.loop-n-preserved
loop-n-preserved c =
    let z = c.requires in
    let p = c.loop-n.invariant in
    let h = c.loop-n-test.true in
    let i = c.is_idle.ensures in
    let f = c.if-is_idle.false in
    let g = c.loaded.ensures in
    -- the voice has a block, whichever way it came
    let b : Becomes c.loop-n.n (ready_of (Reader.Voice c.loop-n.n) c.args.size (voice_in c.loop-n.state c.loop-n.n)) c.loop-n.state
    (mem_of c.args.ram.now c.args.marks.now c.loop-n.watch) c.if-not-loaded.state (mem_of c.args.ram.now c.args.marks.now c.if-not-loaded.watch) =
    elim c.if-not-loaded.branch [
      | then-not-loaded w ↦ rw (w.state-is, w.watch-is) (ready_none _ _ _ g (ap not w.if-not-loaded.true) w.voice-v.ensures w.load-watch.ensures)
      | else-not-loaded w ↦ rw (w.state-is, w.watch-is) (ready_has _ _ _ _ p.holds.formed g (ap not w.if-not-loaded.false))
    ]
    in
    let m = c.stay-m.ensures in
    let t = c.if-m-gt27.false in
    let q = c.put_position.ensures in
    let e = c.step_envelope.ensures in
    played_more p z.3.sized h (play_plays _ _ _ h b _ _ _ (sym i ∙ f) refl m.0 m.1 m.3 refl (steps_stay _ _ _ _ _ _ _ h t q e)) (search rules)

pub returns : goal.returns
returns c =
    let p = c.loop-n.invariant in
    played_all p (search rules)
