-- What a voice that stays in its block gives, from what the code's parts give. Assumes nothing.
use mathlib.Core.Path.{◌≡◌, refl, sym, ◌∙◌, ap}
use mathlib.Core.Bool.{Bool, true, false, ◌||◌}
use mathlib.Core.List.{List}
use Prim.Native.Nat.{ℕ, ◌+◌, ◌≤◌, ◌<◌}
use native.Mathlib.Omega.{arith}
use lib.ListN.{get_or}
use lib.IntN.{ℤ, pos}
use Rattle.std.specs.Prelude.{Some, None}
use Rattle.std.proofs.lemmas.Option.{none-some, same_Some}
use Rattle.fixed.specs.Bits.{bit}
use Rattle.fixed.specs.Arithmetic.{product_of}
use Rattle.fixed.proofs.Bools.{or_first, or_rest}
use Rattle.gauss.specs.Gauss.{index_of, interpolated_of}
use Rattle.pitch.specs.declared.Moved.{Moved}
use Rattle.pitch.specs.Pitch.{step_of, moved_of}
use Rattle.pitch.proofs.Laws.{step_most}
use Rattle.registers.specs.Map.{of_voice, Flags}
use Rattle.voice.specs.declared.Position.{Position}
use Rattle.voice.specs.declared.Settings.{Settings}
use Rattle.voice.specs.declared.Voice.{Voice}
use Rattle.voice.specs.Voice.{sound_of, amplitude_of, movement_of, target_of}
use Rattle.voice.proofs.Range.{moved_small}
use Rattle.voice_sound.proofs.Sounds.{sound_samples}
use Rattle.voices.specs.Voices.{Modulated, settings_of}
use Rattle.fast_path.specs.Steady.{Toned, steady_of}

-- ---- t has the same pitch, modulation and noise as s

pub tone_as : (regs : List ℕ) (n : ℕ) {pmon non p : ℕ} {m o : Bool} → n < 24 → Modulated regs pmon → Flags regs 0x194 non → p ≡ of_voice regs n 4 → m ≡ bit n pmon → o ≡ bit n non
    → Toned (settings_of regs n) (record { pitch = p; low = 0; high = 0; modulated = m; noise = o })
unfolding settings_of
tone_as regs n h f g e q r = record { pitch = e; modulated = q ∙ f.each n h; noise = r ∙ g.each n h }

module _ {s t : Settings} (e : Toned s t) (below : ℤ) (v : Voice) where
  -- b is the amplitude below as the code has it, p the pitch step
  module _ {b : ℤ} {p : ℕ} (eb : b ≡ below) (ep : p ≡ step_of t.pitch t.modulated b) where
    pub tone_counter : {c : ℕ} → c ≡ (moved_of v.position.counter p).counter → c ≡ (movement_of s below v).counter
    tone_counter q = q ∙ rw (ep, eb, e.pitch, e.modulated)

    pub tone_target : {i : ℕ} → i ≡ v.position.index + (moved_of v.position.counter p).moves → i ≡ target_of s below v
    unfolding target_of
    tone_target q = q ∙ rw (ep, eb, e.pitch, e.modulated)

  pub tone_amplitude : (level : ℕ) {a : ℤ} → a ≡ amplitude_of t level v → a ≡ amplitude_of s level v
  unfolding amplitude_of sound_of
  tone_amplitude level p = p ∙ rw e.noise

-- ---- steps that hold from tick to tick

module _ (s : Settings) where
  pub steady_none : (s.noise || s.modulated) ≡ true → None ≡ steady_of s
  unfolding steady_of
  steady_none e = rw e

  pub steady_some : {r : ℕ} → (s.noise || s.modulated) ≡ false → r ≡ step_of s.pitch false (pos 0) → Some r ≡ steady_of s
  unfolding steady_of
  steady_some e p = rw (e, p)

  module _ {p : ℕ} (h : Some p ≡ steady_of s) where
    -- a step says that the voice plays its samples and is not modulated
    plain : (s.noise || s.modulated) ≡ false
    plain = by (s.noise || s.modulated) refl
      where
        by : (b : Bool) → (s.noise || s.modulated) ≡ b → b ≡ false
        by false e = refl
        by true e = absurd (none-some _ (steady_none e ∙ sym h))

    step_is : p ≡ step_of s.pitch false (pos 0)
    unfolding steady_of
    step_is = same_Some _ _ (h ∙ rw plain)

    pub step_small : p ≤ 0x4000
    step_small = rw step_is (step_most _ _ _)

    module _ (below : ℤ) (v : Voice) where
      step_here : p ≡ step_of s.pitch s.modulated below
      unfolding step_of
      step_here = step_is ∙ rw (or_rest s.noise _ plain)

      pub plain_counter : {c : ℕ} → c ≡ (moved_of v.position.counter p).counter → c ≡ (movement_of s below v).counter
      plain_counter e = e ∙ ap (λ (q : ℕ). (moved_of v.position.counter q).counter) step_here

      pub plain_target : {i : ℕ} → i ≡ v.position.index + (moved_of v.position.counter p).moves → i ≡ target_of s below v
      unfolding target_of
      plain_target e = e ∙ ap (λ (q : ℕ). v.position.index + (moved_of v.position.counter q).moves) step_here

      -- t is another voice's settings that plays its samples
      pub plain_amplitude : (t : Settings) (l level : ℕ) {a : ℤ} → t.noise ≡ false → a ≡ amplitude_of t l v → a ≡ amplitude_of s level v
      unfolding amplitude_of sound_of
      plain_amplitude t l level f e = e ∙ rw (f, or_first s.noise s.modulated plain)

-- ---- what a voice of the buffer gives, of its position p and the four samples there

pub index_small : {p q : Position} → p ≡ q → q.index ≤ 27 → (k : ℕ) → k ≤ 3 → p.index + k < 31
index_small e h k l = rw e (omega arith)

pub index_first : {p q : Position} → p ≡ q → q.index ≤ 27 → p.index < 31
index_first e h = rw e (omega arith)

module _ (s : Settings) (level : ℕ) (v : Voice) where
  pub sound_here : {p : Position} {i : ℕ} {r x a b c d : ℤ} → s.noise ≡ false → p ≡ v.position → i ≡ index_of p.counter → x ≡ interpolated_of i a b c d
      → a ≡ get_or v.playing.samples p.index (pos 0) → b ≡ get_or v.playing.samples (p.index + 1) (pos 0) → c ≡ get_or v.playing.samples (p.index + 2) (pos 0)
      → d ≡ get_or v.playing.samples (p.index + 3) (pos 0) → r ≡ x → r ≡ sound_of s level v
  sound_here n e i x a b c d r = sound_samples s level v n (i ∙ rw e) x (a ∙ rw e) (b ∙ rw e) (c ∙ rw e) (d ∙ rw e) r

  pub amplitude_here : {x r : ℤ} {l : ℕ} → x ≡ sound_of s level v → l ≡ v.envelope.level → r ≡ product_of x (pos l) → r ≡ amplitude_of s level v
  unfolding amplitude_of
  amplitude_here e f g = g ∙ rw (e, f)

-- where a step leads it
pub moved_here : (v : Voice) (step : ℕ) {p : Position} {m : Moved} → p ≡ v.position → m ≡ moved_of p.counter step
    → (m.counter ≡ (moved_of v.position.counter step).counter) × (p.index + m.moves ≡ v.position.index + (moved_of v.position.counter step).moves)
moved_here v step e f = (rw (f, e), rw (f, e))

pub small_here : (v : Voice) (step : ℕ) {p : Position} {m : Moved} → p ≡ v.position → m ≡ moved_of p.counter step → v.position.counter < 0x1000 → v.position.index ≤ 27 → step ≤ 0x4000 → p.index + m.moves < 32
small_here v step e f c i s = rw (f, e) (moved_small v step refl c i s)
