-- The programs of a voice, from what the code's parts do. Assumes nothing.
use mathlib.Core.Path.{◌≡◌, sym, subst, ◌∙◌}
use mathlib.Core.Bool.{Bool, true, false}
use mathlib.Core.List.{List}
use Prim.Native.Nat.{ℕ, ◌+◌, ◌-◌, ◌≤◌, ◌<◌}
use lib.IntN.{ℤ, pos}
use borrow.Author.Tests.{lt-ltb, le-ltb}
use Rattle.envelope.specs.declared.Envelope.{Envelope}
use Rattle.envelope.specs.Adsr.{ticked_of}
use Rattle.pitch.specs.declared.Moved.{Moved}
use Rattle.pitch.specs.Pitch.{step_of, moved_of}
use Rattle.soundram.specs.declared.Reader.{Reader}
use Rattle.soundram.specs.Program.{Mem, Does, bytes_from}
use Rattle.soundram.proofs.Programs.{does_done, does_give, does_bind, does_yes, does_no}
use Rattle.voice.specs.declared.Voice.{Voice}
use Rattle.voice.specs.declared.Settings.{Settings}
use Rattle.voice.specs.Voice.{with_envelope, with_position, filled_of, load_of, ended_of, ready_of, amplitude_of, stepped_of, target_of, arrive_of, moves_of, is_idle, tick_of}

module _ (who : Reader) (size : ℕ) (v : Voice) where
  pub load_does : {w : Voice} {bytes : List ℕ} {m n : Mem} → Does (bytes_from who size v.source.address 8) m bytes n → w ≡ filled_of v bytes → Does (load_of who size v) m w n
  unfolding load_of
  load_does {n} d e = does_bind _ d (does_give n e)

  pub ready_loaded : {m : Mem} → v.playing.loaded ≡ true → Does (ready_of who size v) m v m
  unfolding ready_of
  ready_loaded {m} e = does_yes _ e (does_done v m)

  pub ready_loads : {w : Voice} {m n : Mem} → v.playing.loaded ≡ false → Does (load_of who size v) m w n → Does (ready_of who size v) m w n
  unfolding ready_of
  ready_loads e d = does_no _ e d

  pub arrive_block : (i : ℕ) {x w : Voice} {m n : Mem} → 27 < i → x ≡ ended_of size (with_position v v.position.counter (i - 28))
      → Does (load_of who size x) m w n → Does (arrive_of who size i v) m w n
  unfolding arrive_of
  arrive_block i {w} {m} {n} l k d = does_yes _ (lt-ltb 27 i l) (subst (λ (y : Voice). Does (load_of who size y) m w n) k d)

  pub arrive_on : (i : ℕ) (m : Mem) → i ≤ 27 → Does (arrive_of who size i v) m (with_position v v.position.counter i) m
  unfolding arrive_of
  arrive_on i m l = does_no _ (le-ltb 27 i l) (does_done _ m)

  -- a is the amplitude below as the code has it
  pub moves_does : (s : Settings) (below : ℤ) {a : ℤ} {x w : Voice} {i : ℕ} {m n : Mem} → a ≡ below → x ≡ stepped_of s a v → i ≡ target_of s a v
      → Does (arrive_of who size i x) m w n → Does (moves_of who size s below v) m w n
  unfolding moves_of
  moves_does s below b k t d = rw (← b, ← k, ← t) d

  module _ (s : Settings) (below : ℤ) (level : ℕ) {i : Bool} (j : i ≡ is_idle v.envelope.phase) where
    pub tick_idle : (m : Mem) → i ≡ true → Does (tick_of who size s below level v) m (record { voice = v; amplitude = pos 0 }) m
    unfolding tick_of
    tick_idle m t = does_yes _ (sym j ∙ t) (does_done _ m)

    -- a is the amplitude as the answer holds it, b as the call gave it, below as the code has it
    pub tick_sounds : {w x : Voice} {a b c : ℤ} {m n o : Mem} → i ≡ false → Does (ready_of who size v) m w n → b ≡ amplitude_of s level w → a ≡ b
        → c ≡ below → Does (moves_of who size s c w) n x o → Does (tick_of who size s below level v) m (record { voice = x; amplitude = a }) o
    unfolding tick_of
    tick_sounds {o} t d q r u e =
        does_no _ (sym j ∙ t) (does_bind _ d (does_bind _ (rw u at e) (does_give o (rw (r, q)))))

-- the two steps: p is the pitch step, r what it moves, a the amplitude below as the code has it
module _ (s : Settings) (below : ℤ) (v : Voice) {a : ℤ} {p : ℕ} {r : Moved} (b : a ≡ below) (q : p ≡ step_of s.pitch s.modulated a)
    (g : r ≡ moved_of v.position.counter p) where
  pub stepped_voice : {e : Envelope} → e ≡ ticked_of v.envelope s.low s.high
      → with_position (with_envelope v e) r.counter v.position.index ≡ stepped_of s below v
  unfolding stepped_of
  stepped_voice h = rw (h, g, q, b)

  pub stepped_target : v.position.index + r.moves ≡ target_of s below v
  unfolding target_of
  stepped_target = rw (g, q, b)
