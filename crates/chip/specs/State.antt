-- The state: what it is made of, fresh, and in range. Assumes nothing.
use Rattle.std.specs.Prelude.{Bool, true, false, ◌&&◌, ◌||◌, not, List, [], ◌∷◌, ℕ, ◌-◌, ◌%◌, eqb, leb, ltb, get_or, replicate, set, pos}
use Rattle.envelope.specs.Adsr.{active}
use Rattle.soundram.specs.declared.ByteAddress.{ByteAddress}
use Rattle.soundram.specs.declared.Watch.{Watch}
use Rattle.soundram.specs.Address.{address_of, halfword_of}
use Rattle.fixed.specs.Bits.{bit}
use Rattle.fixed.specs.Tests.{all_below}
use Rattle.registers.specs.Map.{register_at}
use Rattle.noise.specs.declared.Noise.{Noise}
use Rattle.voice.specs.declared.Voice.{Voice}
use Rattle.voice.specs.Voice.{fresh}
use Rattle.voices.specs.Voices.{past_end}
use Rattle.chip.specs.declared.Control.{Control}
use Rattle.chip.specs.declared.Reverb.{Reverb}

-- ---- what a state is made of

-- what is fixed when a state is made: L, in bytes
pub record Choices : Type 0 where
  pub size : ℕ

-- the registers as written, the voices, the noise, the place in the capture areas, the reverb, the transfer address, and the tick number; the code has it
-- as a buffer of halfwords (`layout`)
pub record State : Type 0 where
  pub choices : Choices
  pub regs : List ℕ
  pub voices : List Voice
  pub noise : Noise
  pub control : Control
  pub capture : ℕ
  pub reverb : Reverb
  pub transfer : ByteAddress
  pub tick : ℕ

-- ---- one place for each part that a rule changes

abbrev pub with_regs : State → List ℕ → State
with_regs s r = record { choices = s.choices; regs = r; voices = s.voices; noise = s.noise; control = s.control; capture = s.capture; reverb = s.reverb; transfer = s.transfer; tick = s.tick }

abbrev pub with_voices : State → List Voice → State
with_voices s v = record { choices = s.choices; regs = s.regs; voices = v; noise = s.noise; control = s.control; capture = s.capture; reverb = s.reverb; transfer = s.transfer; tick = s.tick }

abbrev pub with_control : State → Control → State
with_control s c = record { choices = s.choices; regs = s.regs; voices = s.voices; noise = s.noise; control = c; capture = s.capture; reverb = s.reverb; transfer = s.transfer; tick = s.tick }

abbrev pub with_reverb : State → Reverb → State
with_reverb s r = record { choices = s.choices; regs = s.regs; voices = s.voices; noise = s.noise; control = s.control; capture = s.capture; reverb = r; transfer = s.transfer; tick = s.tick }

abbrev pub with_transfer : State → ByteAddress → State
with_transfer s a = record { choices = s.choices; regs = s.regs; voices = s.voices; noise = s.noise; control = s.control; capture = s.capture; reverb = s.reverb; transfer = a; tick = s.tick }

-- ---- "Fresh state: registers zero except 1ACh = 4; voices Idle; noise 0, timer 20000h; places 0; no doubt; tick number 0."

-- with each of the voices v
abbrev pub made_of : ℕ → Voice → State
made_of size v =
    record {
      choices = record { size = size };
      regs = set (replicate 256 0) 0xD6 4;
      voices = replicate 24 v;
      noise = record { level = 0; timer = 0x20000 };
      control = record { applied = 0; latch = false; doubt = false };
      capture = 0;
      reverb = record { place = record { 0 = 0 }; right = false; held = record { left = pos 0; right = pos 0 } };
      transfer = record { 0 = 0 };
      tick = 0;
    }

unfoldable pub fresh_of : ℕ → State
fresh_of size = made_of size fresh

-- ---- "Ranges (number 2)"

-- every test of a list holds
unfoldable pub all_of : List Bool → Bool
all_of [] = true
all_of (b ∷ bs) = b && all_of bs

-- "L one of the two"
unfoldable pub size_ok : ℕ → Bool
size_ok size = eqb size 0x10000 || eqb size 0x80000

-- "envelope 0..7FFFh"; "envelope wait 0..400000h, at least 1 in Attack, Decay, Sustain, Release"; "pitch counter below 1000h; sample index 0..27;
-- voice address a multiple of 8 below L"
unfoldable pub voice_ok : ℕ → Voice → Bool
voice_ok size v =
    all_of
    (leb v.envelope.level 0x7FFF
    ∷ leb v.envelope.wait 0x400000
    ∷ (not (active v.envelope.phase) || leb 1 v.envelope.wait)
    ∷ ltb v.position.counter 0x1000
    ∷ leb v.position.index 27
    ∷ eqb (v.source.address.0 % 8) 0
    ∷ ltb v.source.address.0 size
    ∷ [])

-- the first n of the voices
abbrev pub every_ok : ℕ → List Voice → ℕ → Bool
every_ok size vs n = all_below n (λ k. voice_ok size (get_or vs k past_end))

-- the reverb's base, "1A2h reverb base"
abbrev pub base_at : ℕ → List ℕ → ByteAddress
base_at size regs = address_of size (record { 0 = register_at regs 0x1A2 })

abbrev pub base_of : State → ByteAddress
base_of s = base_at s.choices.size s.regs

-- "capture place even, below 400h; reverb place even, from its base to L-2; transfer address even, below L; noise timer 0..20000h"
unfoldable pub state_ok : State → Bool
state_ok s =
    all_of
    (size_ok s.choices.size
    ∷ every_ok s.choices.size s.voices 24
    ∷ eqb (s.capture % 2) 0
    ∷ ltb s.capture 0x400
    ∷ eqb (s.reverb.place.0 % 2) 0
    ∷ leb (base_of s).0 s.reverb.place.0
    ∷ leb s.reverb.place.0 (s.choices.size - 2)
    ∷ eqb (s.transfer.0 % 2) 0
    ∷ ltb s.transfer.0 s.choices.size
    ∷ leb s.noise.timer 0x20000
    ∷ [])

-- ---- what accesses watch: "If SPUCNT bits 15 and 6 are set", at the IRQ address

unfoldable pub watch_of : State → Watch
watch_of s =
    let spucnt = register_at s.regs 0x1AA in
    record {
      armed = bit 15 spucnt && bit 6 spucnt;
      halfword = halfword_of (address_of s.choices.size (record { 0 = register_at s.regs 0x1A4 }));
      latch = s.control.latch;
      doubt = s.control.doubt;
    }

unfoldable pub watched_of : State → Watch → State
watched_of s w = with_control s (record { applied = s.control.applied; latch = w.latch; doubt = w.doubt })
