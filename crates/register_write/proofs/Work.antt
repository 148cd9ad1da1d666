-- Register writes on the buffer, as the code makes them. Assumes nothing.
use mathlib.Core.Path.{◌≡◌, refl, ap, ◌∙◌}
use mathlib.Core.Bool.{Bool, true, false, not, ◌&&◌}
use mathlib.Core.List.{List}
use Prim.Native.Nat.{ℕ, ◌+◌, ◌-◌, ◌*◌, ◌/◌, ◌%◌, ◌≤◌, ◌<◌}
use native.Mathlib.Omega.{arith}
use borrow.Author.Tests.{not-true, not-false, lt-ltb, le-ltb, lt-leb, eq-eqb, ne_eqb}
use lib.ListN.{get_or, set}
use lib.Seq.{set-get_or}
use Rattle.fixed.specs.Bits.{bit}
use Rattle.envelope.specs.declared.Envelope.{Envelope}
use Rattle.envelope.specs.declared.Phase.TheVariants.{Release}
use Rattle.envelope.specs.Adsr.{entered_of}
use Rattle.noise.specs.declared.Noise.{Noise}
use Rattle.noise.specs.Noise.{written_of}
use Rattle.soundram.specs.declared.ByteAddress.{ByteAddress}
use Rattle.soundram.specs.Address.{address_of, Sized}
use Rattle.registers.specs.Map.{register_at, of_voice}
use Rattle.registers.specs.Offsets.{between}
use Rattle.voice.specs.declared.Voice.{Voice}
use Rattle.voice.specs.Voice.{with_envelope, fresh, keyed_on, goes_off}
use Rattle.voice.proofs.Keys.{keyed_off_lem, keyed_still, stopped}
use Rattle.voice.proofs.Range.{keyed_on_in}
use Rattle.voices.specs.Voices.{past_end}
use Rattle.chip.specs.declared.Control.{Control}
use Rattle.chip.specs.State.{State, with_regs, with_voices, with_control, with_transfer}
use Rattle.chip.proofs.Ranges.{placed_even}
use Rattle.chip.specs.Registers.{keyed, key_on, key_off, repeated, set_repeat, set_control, is_repeat, is_key_on, is_key_off, effect_of, write_of}
use Rattle.chip.proofs.Registers.{stop_none, stop_more, bits_none, bits_more, keys_first, keys_second, repeat_as, on_as, on_none, off_as, control_on, control_off, effect_repeat, effect_on, effect_off, effect_base, effect_transfer, effect_control, effect_none, write_as}
use Rattle.layout.specs.Layout.{state_of, voice_in, Formed, Holds}
use Rattle.layout.specs.Stores.{with_voice, with_repeat, with_noise, with_place}
use Rattle.layout.proofs.Laws.{self_holds, holds_as}
use Rattle.register_write.specs.Keys.{key_voice, key_if, key_bits, key_pair, stop_voice, stop_voices}

-- ---- one voice

pub of_voice_is : (regs : List ℕ) (n offset : ℕ) {r : ℕ} → r ≡ register_at regs (n * 16 + offset) → r ≡ of_voice regs n offset
unfolding register_at of_voice
of_voice_is regs n offset e = let q : (n * 16 + offset) / 2 ≡ n * 8 + offset / 2 = omega arith in e ∙ rw q

-- the voice that key on begins may stand in the buffer
pub start_in : {size : ℕ} (u low high : ℕ) {z : ℕ} {v : Voice} → Sized size → z ≡ size → v ≡ keyed_on z (record { 0 = u }) low high
    → (v.source.address.0 % 8 ≡ 0) × (v.source.address.0 < 0x80000)
start_in u low high s e f =
    let r = keyed_on_in (record { 0 = u }) low high s in
    let b = r.below in
    let m = s.most in
    rw (f, e) (r.multiple, omega arith)

module _ (s : State) (n : ℕ) {ys : List ℕ} where
  -- z is the size; u, a and b are the voice's registers as the calls have them
  pub started : {z u a b : ℕ} {v : Voice} → z ≡ s.choices.size → u ≡ of_voice s.regs n 6 → a ≡ of_voice s.regs n 8 → b ≡ of_voice s.regs n 0xA
      → v ≡ keyed_on z (record { 0 = u }) a b → Holds ys (with_voice s n v) → Holds ys (key_voice true s n)
  started ez eu ea eb ev h = holds_as h (rw (ev, ez, eu, ea, eb))

  pub released : {e x : Envelope} {g : Bool} {a b : ℕ} → e ≡ (get_or s.voices n past_end).envelope → g ≡ goes_off e.phase → not g ≡ false → a ≡ of_voice s.regs n 8
      → b ≡ of_voice s.regs n 0xA → x ≡ entered_of Release e.level a b → Holds ys (with_voice s n (with_envelope (get_or s.voices n past_end) x)) → Holds ys (key_voice false s n)
  released {g} ee eg t ea eb ex h =
      holds_as h (ap (with_voice s n) (keyed_off_lem (get_or s.voices n past_end) _ _ (eg ∙ rw ee) (not-false g t) (ex ∙ rw (ee, ea, eb))))

  pub stopped_voice : {f : Voice} → f ≡ fresh → Holds ys (with_voice s n (with_envelope (get_or s.voices n past_end) f.envelope)) → Holds ys (stop_voice s n)
  stopped_voice e h = holds_as h (ap (with_voice s n) (stopped (get_or s.voices n past_end) e))

  pub repeat_put : (value : ℕ) → Holds ys (with_voice s n (with_repeat (get_or s.voices n past_end) value)) → Holds ys (set_repeat s n value)
  unfolding repeated
  repeat_put value h = holds_as h (repeat_as s n value refl)

-- a voice that stays as it is
stays : (s : State) (n : ℕ) → s ≡ with_voice s n (get_or s.voices n past_end)
stays s n = rw (set-get_or s.voices n past_end)

module _ (xs : List ℕ) (n : ℕ) (f : Formed xs) where
  pub not_released : {e : Envelope} {g : Bool} → e ≡ (voice_in xs n).envelope → g ≡ goes_off e.phase → not g ≡ true → Holds xs (key_voice false (state_of xs) n)
  not_released {g} ee eg t =
      holds_as (self_holds xs f) (stays (state_of xs) n ∙ ap (with_voice (state_of xs) n) (keyed_still (voice_in xs n) _ _ (eg ∙ rw ee) (not-true g t)))

  pub key_none : (set on : Bool) → not set ≡ true → Holds xs (key_if set on (state_of xs) n)
  key_none set on t = rw (not-true set t) (holds_as (self_holds xs f) (stays (state_of xs) n))

-- b says which of the two keys the call was of
pub key_set : (s : State) (n : ℕ) (set on b : Bool) {ys : List ℕ} → not set ≡ false → on ≡ b → Holds ys (key_voice b s n) → Holds ys (key_if set on s n)
key_set s n set on b t e h = rw (not-false set t, e) h

-- ---- loops over the voices

-- a state of the same size
pub still_sized : {size : ℕ} (ys : List ℕ) {t : State} → Sized size → Holds ys t → t.choices.size ≡ size → Sized (state_of ys).choices.size
still_sized ys z h e = rw (h.state, e) z

module _ (on : Bool) (s : State) (value first : ℕ) where
  pub bits_more_in : (k : ℕ) (ys : List ℕ) {zs : List ℕ} → Holds ys (key_bits on s value first k) → Holds zs (key_if (bit k value) on (state_of ys) (first + k)) → Holds zs (key_bits on s value first (k + 1))
  bits_more_in k ys h g = holds_as g (rw h.state (ap (with_voices s) (bits_more (keyed on s.choices.size s.regs) value first s.voices k refl refl)))

pub bits_none_in : (on : Bool) (xs : List ℕ) (value first : ℕ) → Formed xs → Holds xs (key_bits on (state_of xs) value first 0)
bits_none_in on xs value first f = holds_as (self_holds xs f) (ap (with_voices (state_of xs)) (bits_none (keyed on (state_of xs).choices.size (state_of xs).regs) value first (state_of xs).voices))

pub stop_none_in : (xs : List ℕ) → Formed xs → Holds xs (stop_voices (state_of xs) 0)
stop_none_in xs f = holds_as (self_holds xs f) (ap (with_voices (state_of xs)) (stop_none (state_of xs).voices))

pub stop_more_in : (s : State) (n : ℕ) (ys : List ℕ) {zs : List ℕ} → Holds ys (stop_voices s n) → Holds zs (stop_voice (state_of ys) n) → Holds zs (stop_voices s (n + 1))
stop_more_in s n ys h g = holds_as g (rw h.state (ap (with_voices s) (stop_more s.voices n refl refl)))

-- a loop that counted to its end
pub holds_end : (f : ℕ → State) (n k : ℕ) {ys : List ℕ} → Holds ys (f n) → n ≤ k → k ≤ n → Holds ys (f k)
holds_end f n k h a b = let q : n ≡ k = omega arith in holds_as h (ap f q)

-- ---- effects of a write

module _ (s : State) (second value : ℕ) {ys : List ℕ} where
  pub pair_first : (on : Bool) → second ≡ 0 → Holds ys (key_bits on s value 0 16) → Holds ys (key_pair on s second value)
  pair_first on e h = holds_as h (ap (with_voices s) (keys_first (keyed on s.choices.size s.regs) second value s.voices e refl))

  pub pair_second : (on : Bool) → (second ≡ 0 → ⊥) → Holds ys (key_bits on s value 16 8) → Holds ys (key_pair on s second value)
  pair_second on e h = holds_as h (ap (with_voices s) (keys_second (keyed on s.choices.size s.regs) second value s.voices e refl))

  -- u is SPUCNT
  pub keyed_on_lem : {u : ℕ} → u ≡ register_at s.regs 0x1AA → u / 0x8000 % 2 ≡ 1 → Holds ys (key_pair true s second value) → Holds ys (key_on s second value)
  keyed_on_lem e t h = holds_as h (on_as s second value e t refl)

  pub keyed_off_in : Holds ys (key_pair false s second value) → Holds ys (key_off s second value)
  keyed_off_in h = holds_as h (off_as s second value refl)

pub keyed_none : (xs : List ℕ) (second value : ℕ) {u : ℕ} → Formed xs → u ≡ register_at (state_of xs).regs 0x1AA → (u / 0x8000 % 2 ≡ 1 → ⊥) → Holds xs (key_on (state_of xs) second value)
keyed_none xs second value f e t = holds_as (self_holds xs f) (on_none (state_of xs) second value e t)

-- SPUCNT: n and m are the noise before and after it, c the rest of what it changes
module _ (s : State) (old value : ℕ) {n m : Noise} {c : Control} (ys : List ℕ) {zs : List ℕ} (en : n ≡ s.noise) (em : m ≡ written_of n old value) (h : Holds ys (with_noise s m)) (ec : c ≡ (state_of ys).control)
    (g : Holds zs (with_control (state_of ys) (record { applied = c.applied; latch = c.latch && bit 6 value; doubt = c.doubt }))) where
  written : m ≡ written_of s.noise old value
  written = em ∙ rw en

  pub control_stays : value / 0x8000 % 2 ≡ 1 → Holds zs (set_control s old value)
  control_stays t = holds_as g (rw (ec, h.state) (control_on s old value written t))

  pub control_stops : {ws : List ℕ} → (value / 0x8000 % 2 ≡ 1 → ⊥) → Holds ws (stop_voices (state_of zs) 24) → Holds ws (set_control s old value)
  control_stops t k = holds_as k (rw (g.state, ec, h.state) (control_off s old value written t refl))

-- which effect is taken

module _ (offset : ℕ) where
  a_repeat : offset < 0x180 → offset % 16 ≡ 0xE → is_repeat offset ≡ true
  a_repeat h e = rw (lt-ltb offset 0x180 h, eq-eqb (offset % 16) 0xE e)

  no_repeat : offset < 0x180 → (offset % 16 ≡ 0xE → ⊥) → is_repeat offset ≡ false
  no_repeat h e = rw (lt-ltb offset 0x180 h, ne_eqb (offset % 16) 0xE e)

  past_voices : 0x180 ≤ offset → is_repeat offset ≡ false
  past_voices h = rw (le-ltb offset 0x180 h)

  -- below an interval
  not_between : (low high : ℕ) → offset < low → between low high offset ≡ false
  not_between low high h = rw (lt-leb low offset h)

module _ (s : State) (offset old value : ℕ) {ys : List ℕ} where
  pub takes_repeat : offset < 0x180 → offset % 16 ≡ 0xE → Holds ys (set_repeat s (offset / 16) value) → Holds ys (effect_of s offset old value)
  takes_repeat a b h = holds_as h (effect_repeat s offset old value (a_repeat offset a b) refl)

  pub takes_on : 0x180 ≤ offset → is_key_on offset ≡ true → Holds ys (key_on s (offset - 0x188) value) → Holds ys (effect_of s offset old value)
  takes_on a b h = holds_as h (effect_on s offset old value (past_voices offset a) b refl)

  pub takes_off : 0x180 ≤ offset → is_key_on offset ≡ false → is_key_off offset ≡ true → Holds ys (key_off s (offset - 0x18C) value) → Holds ys (effect_of s offset old value)
  takes_off a b c h = holds_as h (effect_off s offset old value (past_voices offset a) b c refl)

  -- z is the size
  pub takes_base : {z : ℕ} {a : ByteAddress} → offset ≡ 0x1A2 → z ≡ s.choices.size → a ≡ address_of z (record { 0 = value }) → Holds ys (with_place s a) → Holds ys (effect_of s offset old value)
  takes_base e ez ea h = holds_as h (effect_base s offset old value e (ea ∙ rw ez))

  pub takes_transfer : {z : ℕ} {a : ByteAddress} → offset ≡ 0x1A6 → z ≡ s.choices.size → a ≡ address_of z (record { 0 = value }) → Holds ys (with_transfer s a) → Holds ys (effect_of s offset old value)
  takes_transfer e ez ea h = holds_as h (effect_transfer s offset old value e (ea ∙ rw ez))

  pub takes_control : offset ≡ 0x1AA → Holds ys (set_control s old value) → Holds ys (effect_of s offset old value)
  takes_control e h = holds_as h (effect_control s offset old value e refl)

module _ (xs : List ℕ) (offset old value : ℕ) (f : Formed xs) where
  pub takes_none : 0x180 ≤ offset → is_key_on offset ≡ false → is_key_off offset ≡ false → (offset ≡ 0x1A2 → ⊥) → (offset ≡ 0x1A6 → ⊥) → (offset ≡ 0x1AA → ⊥)
      → Holds xs (effect_of (state_of xs) offset old value)
  takes_none a b c d e g = holds_as (self_holds xs f) (effect_none (state_of xs) offset old value (past_voices offset a) b c d e g)

  -- most registers of a voice
  pub takes_voice : offset < 0x180 → (offset % 16 ≡ 0xE → ⊥) → Holds xs (effect_of (state_of xs) offset old value)
  takes_voice a b =
      holds_as (self_holds xs f)
      (effect_none (state_of xs) offset old value (no_repeat offset a b) (not_between offset 0x188 0x18A (omega arith)) (not_between offset 0x18C 0x18E (omega arith)) (λ e. omega arith) (λ e. omega arith) (λ e. omega arith))

-- an address that a register gives is even
pub even_address : {size : ℕ} (value : ℕ) {z : ℕ} {a : ByteAddress} → Sized size → z ≡ size → a ≡ address_of z (record { 0 = value }) → a.0 % 2 ≡ 0
even_address value s e f = rw (f, e) (placed_even (record { 0 = value }) s)

pub written_in : (xs : List ℕ) (offset value : ℕ) (ys : List ℕ) {old : ℕ} {zs : List ℕ} → old ≡ register_at (state_of xs).regs offset → Holds ys (with_regs (state_of xs) (set (state_of xs).regs (offset / 2) value))
    → Holds zs (effect_of (state_of ys) offset old value) → Holds zs (write_of (state_of xs) offset value)
written_in xs offset value ys e h g = holds_as g (write_as (state_of xs) offset value e (rw h.state))
