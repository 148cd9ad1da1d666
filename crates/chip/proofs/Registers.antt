-- Register writes, as the code makes them. Assumes nothing.
use mathlib.Core.Path.{◌≡◌, refl}
use mathlib.Core.Bool.{Bool, true, false, cond, ◌&&◌, ◌||◌}
use mathlib.Core.List.{List}
use Prim.Native.Nat.{ℕ, zero, suc, ◌+◌, ◌-◌, ◌/◌, ◌%◌, ◌≤◌, ◌<◌}
use native.Mathlib.Omega.{arith}
use borrow.Author.Tests.{ltb-true, leb-true, eq-eqb, ne_eqb}
use lib.Dec.{eqb, leb, ltb}
use lib.ListN.{get_or, set}
use Rattle.fixed.specs.Bits.{bit}
use Rattle.fixed.proofs.Bools.{and_first, and_rest}
use Rattle.noise.specs.declared.Noise.{Noise}
use Rattle.noise.specs.Noise.{written_of}
use Rattle.soundram.specs.declared.ByteAddress.{ByteAddress}
use Rattle.registers.specs.Map.{register_at}
use Rattle.registers.specs.Offsets.{between, is_voice, listed}
use Rattle.voice.specs.declared.Voice.{Voice}
use Rattle.voice.specs.Voice.{stopped_of}
use Rattle.voices.specs.Voices.{past_end}
use Rattle.chip.specs.State.{State, with_regs, with_voices, with_reverb, with_transfer}
use Rattle.chip.specs.Registers.{on_bits, on_keys, keyed, key_on, key_off, repeated, set_repeat, stop_first, set_control, is_repeat, is_key_on, is_key_off, placed, effect_of, write_of}

-- ---- loops over the voices

pub stop_none : (vs : List Voice) → vs ≡ stop_first vs zero
unfolding stop_first
stop_none vs = refl

pub stop_more : (vs : List Voice) (n : ℕ) {ws : List Voice} {w : Voice} → ws ≡ stop_first vs n → w ≡ stopped_of (get_or ws n past_end) → set ws n w ≡ stop_first vs (n + 1)
unfolding stop_first
stop_more vs n e f = let q : n + 1 ≡ suc n = omega arith in rw (q, f, e)

pub bits_none : (f : ℕ → Voice → Voice) (value first : ℕ) (vs : List Voice) → vs ≡ on_bits f value first vs zero
unfolding on_bits
bits_none f value first vs = refl

pub bits_more : (f : ℕ → Voice → Voice) (value first : ℕ) (vs : List Voice) (n : ℕ) {ws : List Voice} {w : Voice} → ws ≡ on_bits f value first vs n
    → w ≡ cond (bit n value) (f (first + n) (get_or ws (first + n) past_end)) (get_or ws (first + n) past_end) → set ws (first + n) w ≡ on_bits f value first vs (n + 1)
unfolding on_bits
bits_more f value first vs n e g = let q : n + 1 ≡ suc n = omega arith in rw (q, g, e)

pub keys_first : (f : ℕ → Voice → Voice) (second value : ℕ) (vs : List Voice) {ws : List Voice} → second ≡ 0 → ws ≡ on_bits f value 0 vs 16 → ws ≡ on_keys f second value vs
unfolding on_keys
keys_first f second value vs e g = rw (g, eq-eqb second 0 e)

pub keys_second : (f : ℕ → Voice → Voice) (second value : ℕ) (vs : List Voice) {ws : List Voice} → (second ≡ 0 → ⊥) → ws ≡ on_bits f value 16 vs 8 → ws ≡ on_keys f second value vs
unfolding on_keys
keys_second f second value vs e g = rw (g, ne_eqb second 0 e)

-- ---- effects of a write

pub repeat_as : (s : State) (n value : ℕ) {w : Voice} → w ≡ repeated (get_or s.voices n past_end) value → with_voices s (set s.voices n w) ≡ set_repeat s n value
unfolding set_repeat
repeat_as s n value e = rw e

-- u is SPUCNT
pub on_as : (s : State) (second value : ℕ) {u : ℕ} {ws : List Voice} → u ≡ register_at s.regs 0x1AA → u / 0x8000 % 2 ≡ 1
    → ws ≡ on_keys (keyed true s.choices.size s.regs) second value s.voices → with_voices s ws ≡ key_on s second value
unfolding key_on
on_as s second value e t g = rw (← e, eq-eqb _ 1 t, g)

pub on_none : (s : State) (second value : ℕ) {u : ℕ} → u ≡ register_at s.regs 0x1AA → (u / 0x8000 % 2 ≡ 1 → ⊥) → s ≡ key_on s second value
unfolding key_on
on_none s second value {u} e t = rw (← e, ne_eqb (u / 0x8000 % 2) 1 t)

pub off_as : (s : State) (second value : ℕ) {ws : List Voice} → ws ≡ on_keys (keyed false s.choices.size s.regs) second value s.voices
    → with_voices s ws ≡ key_off s second value
unfolding key_off
off_as s second value e = rw e

-- SPUCNT written: n is the noise, vs the voices after it
abbrev controlled : State → ℕ → Noise → List Voice → State
controlled s value n vs =
    record {
      choices = s.choices;
      regs = s.regs;
      voices = vs;
      noise = n;
      control = record { applied = s.control.applied; latch = s.control.latch && bit 6 value; doubt = s.control.doubt };
      capture = s.capture;
      reverb = s.reverb;
      transfer = s.transfer;
      tick = s.tick;
    }

pub control_on : (s : State) (old value : ℕ) {n : Noise} → n ≡ written_of s.noise old value → value / 0x8000 % 2 ≡ 1
    → controlled s value n s.voices ≡ set_control s old value
unfolding set_control
control_on s old value e t = rw (eq-eqb (value / 0x8000 % 2) 1 t, e)

pub control_off : (s : State) (old value : ℕ) {n : Noise} {vs : List Voice} → n ≡ written_of s.noise old value → (value / 0x8000 % 2 ≡ 1 → ⊥)
    → vs ≡ stop_first s.voices 24 → controlled s value n vs ≡ set_control s old value
unfolding set_control
control_off s old value e t g = rw (ne_eqb (value / 0x8000 % 2) 1 t, e, g)

-- which effect is taken, by the tests in order
module _ (s : State) (offset old value : ℕ) {w : State} where
  pub effect_repeat : is_repeat offset ≡ true → w ≡ set_repeat s (offset / 16) value → w ≡ effect_of s offset old value
  unfolding effect_of
  effect_repeat a e = rw (a, e)

  pub effect_on : is_repeat offset ≡ false → is_key_on offset ≡ true → w ≡ key_on s (offset - 0x188) value → w ≡ effect_of s offset old value
  unfolding effect_of
  effect_on a b e = rw (a, b, e)

  pub effect_off : is_repeat offset ≡ false → is_key_on offset ≡ false → is_key_off offset ≡ true → w ≡ key_off s (offset - 0x18C) value → w ≡ effect_of s offset old value
  unfolding effect_of
  effect_off a b c e = rw (a, b, c, e)

pub effect_base : (s : State) (offset old value : ℕ) {a : ByteAddress} → offset ≡ 0x1A2 → a ≡ placed s value
    → with_reverb s (record { place = a; right = s.reverb.right; held = s.reverb.held }) ≡ effect_of s offset old value
unfolding effect_of
effect_base s offset old value e f = rw (e, f)

pub effect_transfer : (s : State) (offset old value : ℕ) {a : ByteAddress} → offset ≡ 0x1A6 → a ≡ placed s value → with_transfer s a ≡ effect_of s offset old value
unfolding effect_of
effect_transfer s offset old value e f = rw (e, f)

pub effect_control : (s : State) (offset old value : ℕ) {w : State} → offset ≡ 0x1AA → w ≡ set_control s old value → w ≡ effect_of s offset old value
unfolding effect_of
effect_control s offset old value e f = rw (e, f)

pub effect_none : (s : State) (offset old value : ℕ) → is_repeat offset ≡ false → is_key_on offset ≡ false → is_key_off offset ≡ false → (offset ≡ 0x1A2 → ⊥) → (offset ≡ 0x1A6 → ⊥)
    → (offset ≡ 0x1AA → ⊥) → s ≡ effect_of s offset old value
unfolding effect_of
effect_none s offset old value a b c d e f = rw (a, b, c, ne_eqb offset 0x1A2 d, ne_eqb offset 0x1A6 e, ne_eqb offset 0x1AA f)

-- an offset of a voice, by its place there, and the voice's number
pub of_voice_lem : (k offset : ℕ) → (is_voice offset && eqb (offset % 16) k) ≡ true → offset < 0x180
of_voice_lem k offset e = ltb-true offset 0x180 (and_first (ltb offset 0x180) _ e)

pub voice_number : (offset : ℕ) → is_repeat offset ≡ true → offset / 16 < 24
voice_number offset e = omega (arith, of_voice_lem 0xE offset e)

-- an offset between two does not lie below the first
pub from_low : (low high offset : ℕ) → between low high offset ≡ true → low ≤ offset
from_low low high offset e = leb-true low offset (and_first (leb low offset) _ e)

or_either : {P : Type 0} (a b : Bool) → (a ≡ true → P) → (b ≡ true → P) → (a || b) ≡ true → P
or_either true b p q e = p refl
or_either false b p q e = q e

-- a listed offset is one of the 256 registers
pub listed_below : (offset : ℕ) → listed offset ≡ true → offset < 512
unfolding listed
listed_below offset e =
    or_either (leb offset 0x19E) _ (λ t. at_most 0x19E (omega arith) t)
    (or_either (between 0x1A2 0x1AE offset) _ (λ t. at_most 0x1AE (omega arith) (and_rest (leb 0x1A2 offset) _ t))
    (or_either (between 0x1B0 0x1BA offset) _ (λ t. at_most 0x1BA (omega arith) (and_rest (leb 0x1B0 offset) _ t)) (λ t. at_most 0x1FE (omega arith) (and_rest (leb 0x1C0 offset) _ t))))
    (and_rest (eqb (offset % 2) 0) _ e)
  where
    at_most : (n : ℕ) → n < 512 → leb offset n ≡ true → offset < 512
    at_most n h t = omega (arith, leb-true offset n t)

pub write_as : (s : State) (offset value : ℕ) {old : ℕ} {w : State} → old ≡ register_at s.regs offset
    → w ≡ effect_of (with_regs s (set s.regs (offset / 2) value)) offset old value → w ≡ write_of s offset value
unfolding write_of
write_as s offset value e f = rw (f, e)
