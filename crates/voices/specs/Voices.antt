-- "Voices 0 to 23", one after the other, and what they give to the mix, the capture and the reverb. Assumes nothing.
use Rattle.std.specs.Prelude.{◌≡◌, Bool, cond, false, ◌&&◌, List, [], ℕ, zero, suc, ◌<◌, ◌+◌, ◌*◌, eqb, ltb, get_or, set, ℤ, pos, ◌+ℤ◌}
use Rattle.fixed.specs.Bits.{bit}
use Rattle.fixed.specs.Range.{In}
use Rattle.fixed.specs.Arithmetic.{product_of, volume_of}
use Rattle.envelope.specs.declared.Phase.TheVariants.{Idle}
use Rattle.soundram.specs.declared.Reader.{Reader}
use Rattle.soundram.specs.Program.{Prog, done, bind}
use Rattle.registers.specs.Map.{of_voice, flag_of}
use Rattle.voice.specs.declared.Voice.{Voice}
use Rattle.voice.specs.declared.Settings.{Settings}
use Rattle.voice.specs.Voice.{tick_of}
use Rattle.voice.specs.Range.{InRange}
use Rattle.stereo.specs.declared.Stereo.{Stereo}
use Rattle.voices.specs.declared.Captured.{Captured}
use Rattle.voices.specs.declared.Sums.{Sums}

-- ---- what the registers say of voice n: "+4 pitch", "+8 and +Ah ADSR", PMON and NON; voice 0 has none below it

unfoldable pub settings_of : List ℕ → ℕ → Settings
settings_of regs n =
    record {
      pitch = of_voice regs n 4;
      low = of_voice regs n 8;
      high = of_voice regs n 0xA;
      modulated = flag_of regs 0x190 n && ltb 0 n;
      noise = flag_of regs 0x194 n;
    }

-- the same, of flags that are at hand
unfoldable pub flagged_of : List ℕ → ℕ → Bool → Bool → Settings
flagged_of regs n modulated noise =
    record { pitch = of_voice regs n 4; low = of_voice regs n 8; high = of_voice regs n 0xA; modulated = modulated; noise = noise }

-- PMON as one number, without voice 0
pub record Modulated (regs : List ℕ) (flags : ℕ) : Type 0 where
  pub each : (n : ℕ) → n < 24 → bit n flags ≡ (flag_of regs 0x190 n && ltb 0 n)

-- ---- sides and sums

-- "Side = amplitude·volume/8000h."
unfoldable pub side_of : ℤ → ℕ → ℤ
side_of amplitude volume = product_of amplitude (volume_of volume)

unfoldable pub sides_of : List ℕ → ℕ → ℤ → Stereo ℤ
sides_of regs n a = record { left = side_of a (of_voice regs n 0); right = side_of a (of_voice regs n 2) }

abbrev pub silent : Stereo ℤ
silent = record { left = pos 0; right = pos 0 }

unfoldable pub joined_of : Stereo ℤ → Stereo ℤ → Stereo ℤ
joined_of s t = record { left = s.left +ℤ t.left; right = s.right +ℤ t.right }

-- "EON voices' sides"
unfoldable pub gated_of : Bool → Stereo ℤ → Stereo ℤ
gated_of on s = cond on s silent

-- "amplitudes of voices 1 and 3" are captured
unfoldable pub captured_of : ℕ → ℤ → Captured → Captured
captured_of n a c = record { first = cond (eqb n 1) a c.first; third = cond (eqb n 3) a c.third }

-- a voice's sides join the sums; its amplitude modulates the next voice
unfoldable pub added_of : List ℕ → ℕ → ℤ → Sums → Sums
added_of regs n a s =
    record {
      dry = joined_of s.dry (sides_of regs n a);
      wet = joined_of s.wet (gated_of (flag_of regs 0x198 n) (sides_of regs n a));
      below = a;
      captured = captured_of n a s.captured;
    }

unfoldable pub no_sums : Sums
no_sums = record { dry = silent; wet = silent; below = pos 0; captured = record { first = pos 0; third = pos 0 } }

-- the sums of the first n voices, of all amplitudes
unfoldable pub mixed_of : List ℕ → List ℤ → ℕ → Sums
mixed_of regs amplitudes zero = no_sums
mixed_of regs amplitudes (suc n) = added_of regs n (get_or amplitudes n (pos 0)) (mixed_of regs amplitudes n)

-- the volumes of all voices, in four parts of 24: left, right, and the same of those with reverb
pub record Volumes (regs : List ℕ) (v : List ℤ) : Type 0 where
  pub left : (n : ℕ) → n < 24 → get_or v n (pos 0) ≡ volume_of (of_voice regs n 0)
  pub right : (n : ℕ) → n < 24 → get_or v (n + 24) (pos 0) ≡ volume_of (of_voice regs n 2)
  pub wet_left : (n : ℕ) → n < 24 → get_or v (n + 48) (pos 0) ≡ cond (flag_of regs 0x198 n) (volume_of (of_voice regs n 0)) (pos 0)
  pub wet_right : (n : ℕ) → n < 24 → get_or v (n + 72) (pos 0) ≡ cond (flag_of regs 0x198 n) (volume_of (of_voice regs n 2)) (pos 0)

-- an amplitude's shares of both sides, by the volumes at k and 24 further on
unfoldable pub shares_of : List ℤ → ℕ → ℤ → Stereo ℤ
shares_of v k a = record { left = product_of a (get_or v k (pos 0)); right = product_of a (get_or v (k + 24) (pos 0)) }

-- the sums of n voices: each side is at most 8000h
pub record SidesIn (n : ℕ) (s : Stereo ℤ) : Type 0 where
  pub left : In (n * 0x8000) (n * 0x8000) s.left
  pub right : In (n * 0x8000) (n * 0x8000) s.right

pub record SumsIn (n : ℕ) (s : Sums) : Type 0 where
  pub dry : SidesIn n s.dry
  pub wet : SidesIn n s.wet

-- ---- the voices in order

pub record One : Type 0 where
  pub voice : Voice
  pub sums : Sums

-- voice n, of the noise's level
unfoldable pub turn_of : ℕ → List ℕ → ℕ → ℕ → Voice → Sums → Prog One
turn_of size regs level n v s =
    bind (tick_of (Reader.Voice n) size (settings_of regs n) s.below level v) (λ t.
    done (record { voice = t.voice; sums = added_of regs n t.amplitude s }))

pub record Bank : Type 0 where
  pub voices : List Voice
  pub sums : Sums

-- what a list of voices gives past its end, where nothing looks
abbrev pub past_end : Voice
past_end =
    record {
      envelope = record { phase = Idle; level = 0; wait = 0 };
      source = record { address = record { 0 = 0 }; repeat = record { 0 = 0 } };
      position = record { counter = 0; index = 0 };
      playing = record { loaded = false; flags = 0; samples = [] };
      ended = false;
    }

unfoldable pub voice_at : ℕ → List ℕ → ℕ → ℕ → Bank → Prog Bank
voice_at size regs level n b =
    bind (turn_of size regs level n (get_or b.voices n past_end) b.sums) (λ o.
    done (record { voices = set b.voices n o.voice; sums = o.sums }))

-- every voice in range
pub record AllIn (size : ℕ) (voices : List Voice) : Type 0 where
  pub each : (n : ℕ) → n < 24 → InRange size (get_or voices n past_end)
