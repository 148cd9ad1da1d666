-- What the functions that put parts of a state in place promise. Assumes nothing.
use Rattle.std.specs.Prelude.{◌≡◌, List, ℕ, zero, suc, ◌+◌, ◌-◌, ◌<◌, ℤ, pos, length, get_or, set, replicate}
use Rattle.fixed.specs.Range.{In}
use Rattle.fixed.specs.Signed.{bits_of}
use Rattle.noise.specs.declared.Noise.{Noise}
use Rattle.soundram.specs.declared.ByteAddress.{ByteAddress}
use Rattle.voice.specs.declared.Voice.{Voice}
use Rattle.voice.specs.Voice.{with_envelope}
use Rattle.chip.specs.declared.Control.{Control}
use Rattle.chip.specs.declared.Reverb.{Reverb}
use Rattle.chip.specs.State.{State, with_regs, with_voices, with_reverb, fresh_of}
use Rattle.layout.specs.Layout.{place, tail_at}

-- k words of voice n from the word first on, put one after another; f gives each by its number
unfoldable pub put_words : (ℕ → ℕ) → ℕ → ℕ → List ℕ → ℕ → List ℕ
put_words f n first xs zero = xs
put_words f n first xs (suc k) = set (put_words f n first xs k) (place n (first + k)) (f (first + k))

-- k halfwords after the voices, from the first on
unfoldable pub put_tail : (ℕ → ℕ) → ℕ → List ℕ → ℕ → List ℕ
put_tail f first xs zero = xs
put_tail f first xs (suc k) = set (put_tail f first xs k) (tail_at + (first + k)) (f (first + k))

-- what the type of samples says
pub record Samples (xs : List ℤ) : Type 0 where
  pub count : length xs ≡ 31
  pub in16 : (n : ℕ) → n < 31 → In 0x8000 0x7FFF (get_or xs n (pos 0))

-- word w of a voice with these samples, from word 11 on
abbrev pub sample_word : List ℤ → ℕ → ℕ
sample_word xs w = bits_of 16 (get_or xs (w - 11) (pos 0))

-- the state with what a run changes besides the voices
abbrev pub with_rest : State → Noise → Control → ℕ → Reverb → ℕ → State
with_rest s noise control capture reverb tick =
    record {
      choices = s.choices;
      regs = s.regs;
      voices = s.voices;
      noise = noise;
      control = control;
      capture = capture;
      reverb = reverb;
      transfer = s.transfer;
      tick = tick;
    }

abbrev pub with_noise : State → Noise → State
with_noise s noise = with_rest s noise s.control s.capture s.reverb s.tick

-- with another place of the reverb
abbrev pub with_place : State → ByteAddress → State
with_place s a = with_reverb s (record { place = a; right = s.reverb.right; held = s.reverb.held })

-- the state with another voice n
abbrev pub with_voice : State → ℕ → Voice → State
with_voice s n v = with_voices s (set s.voices n v)

-- a voice whose envelope waits on
abbrev pub with_wait : Voice → ℕ → Voice
with_wait v wait = with_envelope v (record { phase = v.envelope.phase; level = v.envelope.level; wait = wait })

-- and one that repeats at another unit
abbrev pub with_repeat : Voice → ℕ → Voice
with_repeat v value =
    record {
      envelope = v.envelope;
      source = record { address = v.source.address; repeat = record { 0 = value } };
      position = v.position;
      playing = v.playing;
      ended = v.ended;
    }

unfoldable pub zeros_of : ℕ → List ℕ
zeros_of n = replicate n 0

-- a fresh state, its registers and its noise all zero
abbrev pub blank_of : ℕ → State
blank_of size = with_noise (with_regs (fresh_of size) (replicate 256 0)) (record { level = 0; timer = 0 })
