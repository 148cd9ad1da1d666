-- The voices of a tick, which change in place. Assumes nothing.
use mathlib.Core.Path.{◌≡◌, refl, sym, ◌∙◌}
use mathlib.Core.Bool.{Bool, true, false, ◌&&◌, not}
use mathlib.Core.List.{List}
use Prim.Native.Nat.{ℕ, ◌+◌, ◌-◌, ◌%◌, ◌≤◌, ◌<◌}
use native.Mathlib.Omega.{arith}
use borrow.Author.Tests.{ltb-true, not-true, not-false}
use lib.Dec.{ltb}
use lib.ListN.{length, set}
use lib.Seq.{get_or-set_same, set-get_or}
use lib.IntN.{ℤ, pos}
use Rattle.fixed.proofs.Bools.{and_rest}
use Rattle.envelope.specs.declared.Envelope.{Envelope}
use Rattle.envelope.specs.Adsr.{active, ticked_of}
use Rattle.envelope.proofs.Range.{ticked_in}
use Rattle.envelope.proofs.Ticks.{waits_ticked}
use Rattle.noise.specs.declared.Noise.{Noise}
use Rattle.noise.specs.Noise.{ticked_of as noise_of}
use Rattle.soundram.specs.declared.Watch.{Watch}
use Rattle.soundram.specs.declared.Reader.{Reader}
use Rattle.soundram.specs.Address.{Sized}
use Rattle.soundram.specs.Program.{Mem, Does, bytes_from}
use Rattle.soundram.proofs.Programs.{Always, ends, always_any, always_bind, always_does}
use Rattle.voice.specs.declared.Settings.{Settings}
use Rattle.voice.specs.declared.Voice.{Voice}
use Rattle.voice.specs.Voice.{with_envelope, with_position, looped_of, filled_of, load_of, ended_of, ready_of, arrive_of, is_idle, movement_of, stepped_of, target_of, amplitude_of}
use Rattle.voice.specs.Range.{InRange}
use Rattle.voice.proofs.Range.{ended_in, ready_range}
use Rattle.voice.proofs.Ticks.{ready_loaded, ready_loads, arrive_block, arrive_on, moves_does, tick_idle, tick_sounds}
use Rattle.voices.specs.Voices.{settings_of, past_end, AllIn}
use Rattle.voices.proofs.Turns.{Play, play_none, play_more, play_all}
use Rattle.registers.specs.Map.{register_at}
use Rattle.chip.specs.declared.Control.{Control}
use Rattle.chip.specs.declared.Reverb.{Reverb}
use Rattle.chip.specs.State.{State, with_voices, watch_of}
use Rattle.chip.specs.Range.{PlaceIn}
use Rattle.tick.specs.Run.{begin_of}
use Rattle.layout.specs.Layout.{state_of, voice_in, Formed, Holds}
use Rattle.layout.specs.Stores.{with_voice, with_wait}
use Rattle.layout.proofs.Laws.{voices_count, self_holds, holds_as, twice}
use Rattle.tick_runs.specs.Run.{Becomes, enveloped, moved_to, Plays, PlaysAll}

-- ---- one voice

-- a voice that was put is the buffer's
voice_put : (xs ys : List ℕ) (n : ℕ) (v : Voice) → n < 24 → Holds ys (with_voice (state_of xs) n v) → voice_in ys n ≡ v
voice_put xs ys n v h p = let k = voices_count xs in rw p.state (get_or-set_same (state_of xs).voices n v past_end (omega arith))

-- a voice that stays as it is
same_voice : (xs : List ℕ) (n : ℕ) → Formed xs → Holds xs (with_voice (state_of xs) n (voice_in xs n))
same_voice xs n f = holds_as (self_holds xs f) (rw (set-get_or (state_of xs).voices n past_end))

-- a load leaves the address
same_address : (who : Reader) (size : ℕ) (v : Voice) → Always (λ (u : Voice). u.source.address ≡ v.source.address) (load_of who size v)
unfolding load_of filled_of looped_of
same_address who size v = always_bind (always_any (bytes_from who size v.source.address 8)) (λ bytes _. ends refl)

pub loaded_place : (who : Reader) (size : ℕ) (v : Voice) {u : Voice} {m o : Mem} → Does (load_of who size v) m u o → v.source.address.0 % 8 ≡ 0 → v.source.address.0 < size → Sized size
    → (u.source.address.0 % 8 ≡ 0) × (u.source.address.0 < 0x80000)
loaded_place who size v d e l z =
    let a = always_does (same_address who size v) d in
    let k = z.most in
    (rw a e, rw a (omega arith))

module _ (xs : List ℕ) (n size : ℕ) where
  -- l says whether the voice has a block
  pub ready_has : (m : Mem) {l : Bool} → Formed xs → l ≡ (voice_in xs n).playing.loaded → not l ≡ false → Becomes n (ready_of (Reader.Voice n) size (voice_in xs n)) xs m xs m
  ready_has m f e t = record { voice = voice_in xs n; does = ready_loaded (Reader.Voice n) size (voice_in xs n) (sym e ∙ not-false _ t); holds = same_voice xs n f }

  pub ready_none : {l : Bool} {v : Voice} {ys : List ℕ} {m o : Mem} → l ≡ (voice_in xs n).playing.loaded → not l ≡ true → v ≡ voice_in xs n → Becomes n (load_of (Reader.Voice n) size v) xs m ys o
      → Becomes n (ready_of (Reader.Voice n) size (voice_in xs n)) xs m ys o
  ready_none e t ev b = record { voice = b.voice; does = ready_loads (Reader.Voice n) size (voice_in xs n) (sym e ∙ not-true _ t) (rw (← ev) b.does); holds = b.holds }

-- both steps, where the voice stays in its block: c and t are the counter and the sample that it comes to
pub steps_stay : (regs xs : List ℕ) (n size c t : ℕ) {ys zs : List ℕ} (m : Mem) → n < 24 → t ≤ 27 → Holds ys (with_voice (state_of xs) n (with_position (voice_in xs n) c t))
    → Holds zs (with_voice (state_of ys) n (enveloped regs n (voice_in ys n))) → Becomes n (arrive_of (Reader.Voice n) size t (moved_to regs n c (voice_in xs n))) xs m zs m
steps_stay regs xs n size c t {ys} {zs} m h l p e =
    record {
      voice = with_position (enveloped regs n (voice_in xs n)) c t;
      does = arrive_on (Reader.Voice n) size (moved_to regs n c (voice_in xs n)) t m l;
      holds = record { formed = e.formed; state = twice (state_of xs) (state_of ys) (state_of zs) n _ _ p.state (e.state ∙ rw (voice_put xs ys n _ h p)) };
    }

-- both steps, past its end: v and s are the voice and its settings as the calls have them, e is its envelope then, x the voice that loads
module _ (regs xs : List ℕ) (n size c t : ℕ) {v x : Voice} {s : Settings} {e : Envelope} (l : 27 < t) (es : s ≡ settings_of regs n) (ev : v ≡ voice_in xs n) (ee : e ≡ ticked_of v.envelope s.low s.high)
    (ex : x ≡ ended_of size (with_position (with_envelope v e) c (t - 28))) where
  pub passed_in : t < 32 → c < 0x1000 → Sized size → InRange size (voice_in xs n) → (x.source.address.0 % 8 ≡ 0) × (x.source.address.0 < size)
  passed_in k o z r =
      let i : InRange size (with_position (with_envelope v e) c (t - 28)) =
      rw (ee, ev) (record { envelope = ticked_in _ _ _ r.envelope; counter = o; index = omega arith; multiple = r.multiple; below = r.below }) in
      let q = ended_in _ z i in
      (rw ex q.multiple, rw ex q.below)

  pub steps_pass : {ys : List ℕ} {m o : Mem} → Becomes n (load_of (Reader.Voice n) size x) xs m ys o → Becomes n (arrive_of (Reader.Voice n) size t (moved_to regs n c (voice_in xs n))) xs m ys o
  steps_pass b = record { voice = b.voice; does = arrive_block (Reader.Voice n) size (moved_to regs n c (voice_in xs n)) t l (ex ∙ rw (ee, ev, es)) b.does; holds = b.holds }

-- a tick of voice n: ys is the buffer once it has a block; c, t and a are what the fast path gives
module _ (size : ℕ) (n : ℕ) (xs : List ℕ) {ys : List ℕ} {m o : Mem} (h : n < 24) (p : Becomes n (ready_of (Reader.Voice n) size (voice_in xs n)) xs m ys o) where
  ready_voice : voice_in ys n ≡ p.voice
  ready_voice = voice_put xs ys n p.voice h p.holds

  pub ready_in_range : InRange size (voice_in xs n) → InRange size (voice_in ys n)
  ready_in_range r = rw ready_voice (ready_range size (Reader.Voice n) (voice_in xs n) p.does r)

  pub play_plays : (regs : List ℕ) (below : ℤ) (level : ℕ) {b a x : ℤ} {c t : ℕ} {zs : List ℕ} {q : Mem} → is_idle (voice_in xs n).envelope.phase ≡ false → b ≡ below
      → c ≡ (movement_of (settings_of regs n) b (voice_in ys n)).counter → t ≡ target_of (settings_of regs n) b (voice_in ys n) → a ≡ amplitude_of (settings_of regs n) level (voice_in ys n) → x ≡ a
      → Becomes n (arrive_of (Reader.Voice n) size t (moved_to regs n c (voice_in ys n))) ys o zs q → Plays size regs n below level xs m x zs q
  unfolding stepped_of
  play_plays regs below level {zs} i eb ec et ea ex q =
      record {
        voice = q.voice;
        does =
            tick_sounds (Reader.Voice n) size (voice_in xs n) (settings_of regs n) below level refl i p.does (ea ∙ rw ready_voice) ex refl
            (moves_does (Reader.Voice n) size p.voice (settings_of regs n) below refl (rw (ec, eb, ready_voice)) (et ∙ rw (eb, ready_voice)) q.does);
        holds = record { formed = q.holds.formed; state = twice (state_of xs) (state_of ys) (state_of zs) n _ _ p.holds.state q.holds.state };
      }

pub idle_plays : (size : ℕ) (regs : List ℕ) (n : ℕ) (below : ℤ) (level : ℕ) (xs : List ℕ) {i : Bool} (m : Mem) → Formed xs → i ≡ is_idle (voice_in xs n).envelope.phase → i ≡ true
    → Plays size regs n below level xs m (pos 0) xs m
idle_plays size regs n below level xs m f ei t = record { voice = voice_in xs n; does = tick_idle _ _ _ _ _ _ ei m t; holds = same_voice xs n f }

-- an envelope's step: it waits on, or moves
pub waits_holds : (xs : List ℕ) (n low high : ℕ) {ys : List ℕ} {w : ℕ} {i : Bool} → w ≡ (voice_in xs n).envelope.wait → i ≡ active (voice_in xs n).envelope.phase → (i && ltb 1 w) ≡ true
    → Holds ys (with_voice (state_of xs) n (with_wait (voice_in xs n) (w - 1))) → Holds ys (with_voice (state_of xs) n (with_envelope (voice_in xs n) (ticked_of (voice_in xs n).envelope low high)))
waits_holds xs n low high ew ei t h = holds_as h (rw (ew, ← waits_ticked (voice_in xs n).envelope (rw (ei, ew)) t low high))

pub waits_once : (w : ℕ) {i a : Bool} → i ≡ a → (i && ltb 1 w) ≡ true → 1 ≤ w
waits_once w {i} e t = let h = ltb-true 1 w (and_rest i (ltb 1 w) t) in omega arith

pub steps_holds : (xs : List ℕ) (n : ℕ) {ys : List ℕ} {s z : Settings} {e u : Envelope} → s ≡ z → e ≡ (voice_in xs n).envelope → u ≡ ticked_of e s.low s.high
    → Holds ys (with_voice (state_of xs) n (with_envelope (voice_in xs n) u)) → Holds ys (with_voice (state_of xs) n (with_envelope (voice_in xs n) (ticked_of (voice_in xs n).envelope z.low z.high)))
steps_holds xs n es ee eu h = holds_as h (rw (eu, ee, es))

-- ---- all voices: n have played, and the buffer holds them

pub record Played (size : ℕ) (regs : List ℕ) (level : ℕ) (xs : List ℕ) (m : Mem) (n : ℕ) (ys : List ℕ) (hs : List ℤ) (b : ℤ) (o : Mem) : Type 0 where
  pub voices : List Voice
  pub play : Play size regs level (state_of xs).voices m n voices hs b o
  pub holds : Holds ys (with_voices (state_of xs) voices)

module _ {size : ℕ} {regs : List ℕ} {level : ℕ} {xs : List ℕ} {m : Mem} where
  pub played_none : (hs : List ℤ) → Formed xs → AllIn size (state_of xs).voices → length hs ≡ 24 → Played size regs level xs m 0 xs hs (pos 0) m
  played_none hs f a h = record { voices = (state_of xs).voices; play = play_none (state_of xs).voices hs m (voices_count xs) h a; holds = self_holds xs f }

  module _ {n : ℕ} {ys : List ℕ} {hs : List ℤ} {b : ℤ} {o : Mem} (p : Played size regs level xs m n ys hs b o) where
    pub played_in : n < 24 → InRange size (voice_in ys n)
    played_in h = rw p.holds.state (p.play.all.each n h)

    pub played_more : {a x : ℤ} {zs : List ℕ} {q : Mem} → Sized size → n < 24 → Plays size regs n b level ys o a zs q → x ≡ a → Played size regs level xs m (n + 1) zs (set hs n x) x q
    played_more z h d e =
        record {
          voices = set p.voices n d.voice;
          play = play_more z p.play h refl (rw p.holds.state at d.does) e;
          holds = holds_as d.holds (rw p.holds.state);
        }

    pub played_all : 24 ≤ n → PlaysAll size regs level xs m hs ys o
    played_all h = record { voices = p.voices; does = play_all p.play h; holds = p.holds }

-- ---- before a run, and after it

pub below_2 : {size base place : ℕ} → PlaceIn size base place → Sized size → place < 0x80000
below_2 p z = let h = p.most in let k = z.most in omega arith

pub begun : (s : State) (count : ℕ) {regs : List ℕ} {n u : Noise} {c : Control} {r : Reverb} {p k v : ℕ} {w : Watch} → regs ≡ s.regs → n ≡ s.noise → c ≡ s.control → r ≡ s.reverb → p ≡ s.capture
    → k ≡ s.tick → v ≡ register_at regs 0x1AA → u ≡ noise_of n v → w ≡ watch_of s
    → record { rest = record { noise = n; applied = c.applied; capture = p; reverb = r; tick = k }; noise = u; watch = w; irq = count; doubt = count } ≡ begin_of s count
begun s count er en ec ev ep ek ex eu ew = rw (eu, ex, er, en, ec, ev, ep, ek, ew)
