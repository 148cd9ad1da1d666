-- A register write leaves a state in range. Assumes nothing.
use mathlib.Core.Path.{◌≡◌, sym, subst, ◌∙◌}
use mathlib.Core.Bool.{true}
use mathlib.Core.List.{List}
use Prim.Native.Nat.{ℕ, zero, suc, ◌+◌, ◌/◌, ◌%◌, ◌≤◌, ◌<◌}
use native.Mathlib.Decide.{ℕ_discrete}
use native.Mathlib.Omega.{arith}
use lib.Dec.{eqb}
use lib.ListN.{length, set, length-set}
use lib.Seq.{get_or-set_same, get_or-set_other}
use borrow.Author.Tests.{eqb-true}
use Rattle.fixed.specs.Bits.{bit}
use Rattle.fixed.proofs.Bools.{and_first}
use Rattle.noise.proofs.Range.{written_in}
use Rattle.soundram.proofs.Addresses.{address_below}
use Rattle.registers.specs.Map.{register_at}
use Rattle.registers.specs.Offsets.{listed}
use Rattle.voice.specs.declared.Voice.{Voice}
use Rattle.voice.specs.Range as voice
use Rattle.voice.proofs.Range.{keyed_on_in, keyed_off_in, stopped_in}
use Rattle.voices.specs.Voices.{AllIn}
use Rattle.voices.proofs.Turns.{all_set}
use Rattle.chip.specs.State.{State, with_regs, with_voices}
use Rattle.chip.specs.Range.{InRange}
use Rattle.chip.proofs.Tests.{sized}
use Rattle.chip.proofs.Ranges.{placed_even, placed_most, transfer_in_lem}
use Rattle.chip.specs.Registers.{on_bits, on_keys, key_on, key_off, set_repeat, repeated, stop_first, set_control, effect_of, write_of}
use Rattle.chip.proofs.Writes.{of_both, of_effects}
use Rattle.chip.proofs.Registers.{voice_number}

-- ---- voices

-- all of 24 voices in range
record Voices (size : ℕ) (vs : List Voice) : Type 0 where
  pub count : length vs ≡ 24
  pub all : AllIn size vs

set_in : {size : ℕ} (vs : List Voice) (n : ℕ) {w : Voice} → Voices size vs → n < 24 → voice.InRange size w → Voices size (set vs n w)
set_in vs n {w} i h r = record { count = length-set vs n w ∙ i.count; all = all_set vs n i.all i.count h r }

bits_in : {size : ℕ} (f : ℕ → Voice → Voice) (value first n : ℕ) (vs : List Voice) → ((k : ℕ) (v : Voice) → voice.InRange size v → voice.InRange size (f k v))
    → first + n ≤ 24 → Voices size vs → Voices size (on_bits f value first vs n)
unfolding on_bits
bits_in f value first zero vs g h i = i
bits_in {size} f value first (suc n) vs g h i =
    let j = bits_in f value first n vs g (omega arith) i in
    let r = j.all.each (first + n) (omega arith) in
    set_in _ (first + n) j (omega arith) (of_both (voice.InRange size) (bit n value) (g (first + n) _ r) r)

keys_in : {size : ℕ} (f : ℕ → Voice → Voice) (second value : ℕ) (vs : List Voice) → ((k : ℕ) (v : Voice) → voice.InRange size v → voice.InRange size (f k v))
    → Voices size vs → Voices size (on_keys f second value vs)
unfolding on_keys
keys_in {size} f second value vs g i = of_both (Voices size) (eqb second 0) (bits_in f value 0 16 vs g (omega arith) i) (bits_in f value 16 8 vs g (omega arith) i)

stop_in : {size : ℕ} (n : ℕ) (vs : List Voice) → n ≤ 24 → Voices size vs → Voices size (stop_first vs n)
unfolding stop_first
stop_in zero vs h i = i
stop_in (suc n) vs h i = let j = stop_in n vs (omega arith) i in set_in _ n j (omega arith) (stopped_in _ (j.all.each n (omega arith)))

voices_of : {s : State} → InRange s → Voices s.choices.size s.voices
voices_of r = record { count = r.shaped.voices; all = r.voices }

revoiced : {s : State} {vs : List Voice} → InRange s → Voices s.choices.size vs → InRange (with_voices s vs)
revoiced r i = record { shaped = record { regs = r.shaped.regs; voices = i.count }; size = r.size; voices = i.all; capture = r.capture; place = r.place; transfer = r.transfer; noise = r.noise }

-- ---- the effects of a write

repeat_in : {s : State} (n value : ℕ) → InRange s → n < 24 → InRange (set_repeat s n value)
unfolding set_repeat repeated
repeat_in {s} n value r h =
    let v = r.voices.each n h in
    revoiced r (set_in s.voices n (voices_of r) h (record { envelope = v.envelope; counter = v.counter; index = v.index; multiple = v.multiple; below = v.below }))

on_in : {s : State} (second value : ℕ) → InRange s → InRange (key_on s second value)
unfolding key_on
on_in {s} second value r =
    revoiced r
    (of_both (Voices s.choices.size) (bit 15 (register_at s.regs 0x1AA))
    (keys_in _ second value s.voices (λ k v _. keyed_on_in _ _ _ (sized _ r.size)) (voices_of r)) (voices_of r))

off_in : {s : State} (second value : ℕ) → InRange s → InRange (key_off s second value)
unfolding key_off
off_in {s} second value r = revoiced r (keys_in _ second value s.voices (λ k v i. keyed_off_in v _ _ i) (voices_of r))

control_in : {s : State} (old value : ℕ) → InRange s → InRange (set_control s old value)
unfolding set_control
control_in {s} old value r =
    let i = of_both (Voices s.choices.size) (bit 15 value) (voices_of r) (stop_in 24 s.voices (omega arith) (voices_of r)) in
    record { shaped = record { regs = r.shaped.regs; voices = i.count }; size = r.size; voices = i.all; capture = r.capture; place = r.place; transfer = r.transfer; noise = written_in s.noise old value r.noise }

-- a register that does not move the reverb's base
kept_in_lem : {s : State} (offset value : ℕ) → InRange s → offset % 2 ≡ 0 → (offset ≡ 0x1A2 → ⊥) → InRange (with_regs s (set s.regs (offset / 2) value))
unfolding register_at
kept_in_lem {s} offset value r even other =
    let same = get_or-set_other s.regs (offset / 2) 0xD1 value 0 (λ e. other (omega arith)) in
    record { shaped = record { regs = length-set s.regs (offset / 2) value ∙ r.shaped.regs; voices = r.shaped.voices }; size = r.size; voices = r.voices; capture = r.capture; place = record { even = r.place.even; least = rw same r.place.least; most = r.place.most }; transfer = r.transfer; noise = r.noise }

base_in : (s : State) (value : ℕ) → InRange s → InRange (write_of s 0x1A2 value)
unfolding write_of effect_of register_at
base_in s value r =
    let l = r.shaped.regs in
    let z = sized _ r.size in
    let same = get_or-set_same s.regs 0xD1 value 0 (omega arith) in
    record { shaped = record { regs = length-set s.regs 0xD1 value ∙ l; voices = r.shaped.voices }; size = r.size; voices = r.voices; capture = r.capture; place = record { even = placed_even _ z; least = rw same (omega arith); most = placed_most _ z }; transfer = r.transfer; noise = r.noise }

other_in : (s : State) (offset value : ℕ) → InRange s → offset % 2 ≡ 0 → (offset ≡ 0x1A2 → ⊥) → InRange (write_of s offset value)
unfolding write_of
other_in s offset value r even other =
    let k = kept_in_lem offset value r even other in
    let z = sized _ r.size in
    of_effects InRange _ offset _ value (λ e. repeat_in (offset / 16) value k (voice_number offset e)) (on_in _ value k) (off_in _ value k)
    (λ e. absurd (other (eqb-true offset 0x1A2 e))) (transfer_in_lem k (record { even = placed_even _ z; below = address_below _ _ (omega arith) })) (control_in _ value k) k

pub write_in : (s : State) (offset value : ℕ) → listed offset ≡ true → InRange s → InRange (write_of s offset value)
unfolding listed
write_in s offset value l r = elim (ℕ_discrete offset 0x1A2) [
  | yes e ↦ subst (λ (k : ℕ). InRange (write_of s k value)) (sym e) (base_in s value r)
  | no ne ↦ other_in s offset value r (eqb-true _ _ (and_first (eqb (offset % 2) 0) _ l)) ne
]
