-- What a register write does, and what a read gives. Assumes nothing.
use Rattle.std.specs.Prelude.{Bool, true, false, cond, ◌&&◌, List, ℕ, zero, suc, ◌+◌, ◌-◌, ◌/◌, ◌%◌, ◌^◌, eqb, leb, get_or, set}
use Rattle.fixed.specs.Bits.{bit, field}
use Rattle.fixed.specs.Signed.{bits_of}
use Rattle.fixed.specs.Arithmetic.{volume_of}
use Rattle.noise.specs.Noise.{written_of}
use Rattle.soundram.specs.declared.ByteAddress.{ByteAddress}
use Rattle.soundram.specs.Address.{address_of}
use Rattle.registers.specs.Map.{register_at, of_voice}
use Rattle.registers.specs.Offsets.{between, is_voice, is_level}
use Rattle.voice.specs.declared.Voice.{Voice}
use Rattle.voice.specs.Voice.{keyed_on, keyed_off, stopped_of}
use Rattle.voices.specs.Voices.{past_end}
use Rattle.chip.specs.State.{State, with_regs, with_voices, with_reverb, with_transfer}

-- ---- what a write does besides keeping the value

-- "Key writes act in the call, on the bits set in the value": f at each of n voices from first on whose bit is set
unfoldable pub on_bits : (ℕ → Voice → Voice) → ℕ → ℕ → List Voice → ℕ → List Voice
on_bits f value first vs zero = vs
on_bits f value first vs (suc n) =
    let ws = on_bits f value first vs n in
    let v = get_or ws (first + n) past_end in
    set ws (first + n) (cond (bit n value) (f (first + n) v) v)

-- a pair of key registers: voices 0 to 15, then 16 to 23
unfoldable pub on_keys : (ℕ → Voice → Voice) → ℕ → ℕ → List Voice → List Voice
on_keys f second value vs = cond (eqb second 0) (on_bits f value 0 vs 16) (on_bits f value 16 vs 8)

-- voice n keyed on or off, by its registers
abbrev pub keyed : Bool → ℕ → List ℕ → ℕ → Voice → Voice
keyed true size regs n v = keyed_on size (record { 0 = of_voice regs n 6 }) (of_voice regs n 8) (of_voice regs n 0xA)
keyed false size regs n v = keyed_off v (of_voice regs n 8) (of_voice regs n 0xA)

-- "Key on (SPUCNT bit 15 set)"; "An SPUCNT write with bit 15 clear ..; key on then starts none."
unfoldable pub key_on : State → ℕ → ℕ → State
key_on s second value =
    with_voices s (cond (bit 15 (register_at s.regs 0x1AA)) (on_keys (keyed true s.choices.size s.regs) second value s.voices) s.voices)

unfoldable pub key_off : State → ℕ → ℕ → State
key_off s second value = with_voices s (on_keys (keyed false s.choices.size s.regs) second value s.voices)

-- "+Eh the repeat unit"
unfoldable pub repeated : Voice → ℕ → Voice
repeated v value =
    record {
      envelope = v.envelope;
      source = record { address = v.source.address; repeat = record { 0 = value } };
      position = v.position;
      playing = v.playing;
      ended = v.ended;
    }

unfoldable pub set_repeat : State → ℕ → ℕ → State
set_repeat s n value = with_voices s (set s.voices n (repeated (get_or s.voices n past_end) value))

-- the first n voices stopped
unfoldable pub stop_first : List Voice → ℕ → List Voice
stop_first vs zero = vs
stop_first vs (suc n) = let ws = stop_first vs n in set ws n (stopped_of (get_or ws n past_end))

-- an SPUCNT write, of the value before it: the noise's timer; bit 15 clear stops the voices; "Writing SPUCNT with bit 6 clear clears the latch."
unfoldable pub set_control : State → ℕ → ℕ → State
set_control s old value =
    record {
      choices = s.choices;
      regs = s.regs;
      voices = cond (bit 15 value) s.voices (stop_first s.voices 24);
      noise = written_of s.noise old value;
      control = record { applied = s.control.applied; latch = s.control.latch && bit 6 value; doubt = s.control.doubt };
      capture = s.capture;
      reverb = s.reverb;
      transfer = s.transfer;
      tick = s.tick;
    }

-- "+Eh" of a voice; "188h KON"; "18Ch KOFF"
abbrev pub is_repeat : ℕ → Bool
is_repeat offset = is_voice offset && eqb (offset % 16) 0xE

abbrev pub is_key_on : ℕ → Bool
is_key_on offset = between 0x188 0x18A offset

abbrev pub is_key_off : ℕ → Bool
is_key_off offset = between 0x18C 0x18E offset

abbrev pub placed : State → ℕ → ByteAddress
placed s value = address_of s.choices.size (record { 0 = value })

-- the effects, on the state that keeps the value already; "Writing 1A2h or 1A6h also moves the reverb place or transfer address there."
unfoldable pub effect_of : State → ℕ → ℕ → ℕ → State
effect_of s offset old value =
    cond (is_repeat offset) (set_repeat s (offset / 16) value)
    (cond (is_key_on offset) (key_on s (offset - 0x188) value)
    (cond (is_key_off offset) (key_off s (offset - 0x18C) value)
    (cond (eqb offset 0x1A2) (with_reverb s (record { place = placed s value; right = s.reverb.right; held = s.reverb.held }))
    (cond (eqb offset 0x1A6) (with_transfer s (placed s value))
    (cond (eqb offset 0x1AA) (set_control s old value) s)))))

unfoldable pub write_of : State → ℕ → ℕ → State
write_of s offset value = effect_of (with_regs s (set s.regs (offset / 2) value)) offset (register_at s.regs offset) value

-- ---- what a read gives

-- "19Ch/19Eh ENDX": the end flags of count voices from first on
unfoldable pub end_flags : List Voice → ℕ → ℕ → ℕ
end_flags vs first zero = 0
end_flags vs first (suc n) = end_flags vs first n + cond (get_or vs (first + n) past_end).ended (2 ^ n) 0

-- "SPUSTAT bits 5-0 take SPUCNT's. When read, bit 6 is the interrupt latch, 7 the applied bit 5, 8 and 9 modes 2 and 3, 11 capture place at or above
-- 200h; the rest 0."
unfoldable pub status_of : State → ℕ
status_of s =
    let applied = s.control.applied % 0x40 in
    let mode = field 4 2 applied in
    applied + cond s.control.latch 0x40 0 + cond (bit 5 applied) 0x80 0 + cond (eqb mode 2) 0x100 0 + cond (eqb mode 3) 0x200 0
    + cond (leb 0x200 s.capture) 0x800 0

-- "1B8h/1BAh the doubled main volume"
unfoldable pub doubled : State → ℕ → ℕ
doubled s offset = bits_of 16 (volume_of (register_at s.regs offset))

-- the voice of an offset
abbrev pub voice_at : State → ℕ → Voice
voice_at s offset = get_or s.voices (offset / 16) past_end

-- "Carried registers read back as last written, but +Ch the envelope, +Eh the repeat unit, 19Ch/19Eh ENDX, 1B8h/1BAh the doubled main volume."
unfoldable pub read_of : State → ℕ → ℕ
read_of s offset =
    cond (is_level offset) (voice_at s offset).envelope.level
    (cond (is_repeat offset) (voice_at s offset).source.repeat.0
    (cond (eqb offset 0x19C) (end_flags s.voices 0 16)
    (cond (eqb offset 0x19E) (end_flags s.voices 16 8)
    (cond (eqb offset 0x1AE) (status_of s)
    (cond (eqb offset 0x1B8) (doubled s 0x180)
    (cond (eqb offset 0x1BA) (doubled s 0x182) (register_at s.regs offset)))))))
