-- One voice, as document 01 has it under "Voices 0 to 23". Assumes nothing.
use Rattle.std.specs.Prelude.{Bool, true, false, cond, not, ◌&&◌, ◌||◌, List, ◌++◌, ℕ, ◌+◌, ◌-◌, ltb, drop, get_or, replicate, ℤ, pos}
use Rattle.fixed.specs.Bits.{bit}
use Rattle.fixed.specs.Signed.{signed}
use Rattle.fixed.specs.Arithmetic.{product_of}
use Rattle.adpcm.specs.Adpcm.{block_of}
use Rattle.gauss.specs.Gauss.{index_of, interpolated_of}
use Rattle.envelope.specs.declared.Phase.{Phase}
use Rattle.envelope.specs.declared.Phase.TheVariants.{Idle, Attack, Decay, Sustain, Release, Off}
use Rattle.envelope.specs.declared.Envelope.{Envelope}
use Rattle.envelope.specs.Adsr.{entered_of, ticked_of}
use Rattle.pitch.specs.declared.Moved.{Moved}
use Rattle.pitch.specs.Pitch.{step_of, moved_of}
use Rattle.soundram.specs.declared.UnitAddress.{UnitAddress}
use Rattle.soundram.specs.declared.Reader.{Reader}
use Rattle.soundram.specs.Address.{address_of, unit_of, forward_of}
use Rattle.soundram.specs.Program.{Prog, done, bind, branch, bytes_from}
use Rattle.voice.specs.declared.Source.{Source}
use Rattle.voice.specs.declared.Voice.{Voice}
use Rattle.voice.specs.declared.Settings.{Settings}

-- ---- one place for each part that a rule changes

abbrev pub with_envelope : Voice → Envelope → Voice
with_envelope v e = record { envelope = e; source = v.source; position = v.position; playing = v.playing; ended = v.ended }

abbrev pub with_position : Voice → ℕ → ℕ → Voice
with_position v counter index =
    record { envelope = v.envelope; source = v.source; position = record { counter = counter; index = index }; playing = v.playing; ended = v.ended }

-- ---- "A fresh voice is stated once; reset and key on both begin from it."

abbrev pub silence : List ℤ
silence = replicate 31 (pos 0)

unfoldable pub fresh : Voice
fresh =
    record {
      envelope = record { phase = Idle; level = 0; wait = 0 };
      source = record { address = record { 0 = 0 }; repeat = record { 0 = 0 } };
      position = record { counter = 0; index = 0 };
      playing = record { loaded = false; flags = 0; samples = silence };
      ended = false;
    }

-- "Key on .. : samples, counter, envelope 0; Attack; address = start; repeat = start; ENDX bit cleared; no block loaded."
unfoldable pub keyed_on : ℕ → UnitAddress → ℕ → ℕ → Voice
keyed_on size start low high =
    record {
      envelope = entered_of Attack fresh.envelope.level low high;
      source = record { address = address_of size start; repeat = start };
      position = fresh.position;
      playing = fresh.playing;
      ended = fresh.ended;
    }

-- "Key off: Attack, Decay, Sustain go to Release."
abbrev pub goes_off : Phase → Bool
goes_off Idle = false
goes_off Attack = true
goes_off Decay = true
goes_off Sustain = true
goes_off Release = false
goes_off Off = false

unfoldable pub keyed_off : Voice → ℕ → ℕ → Voice
keyed_off v low high = cond (goes_off v.envelope.phase) (with_envelope v (entered_of Release v.envelope.level low high)) v

-- "makes all voices Idle, envelope 0"
unfoldable pub stopped_of : Voice → Voice
stopped_of v = with_envelope v fresh.envelope

-- ---- Load

-- "Loop start sets repeat to the voice address."
unfoldable pub looped_of : Source → ℕ → Source
looped_of s flags = record { address = s.address; repeat = cond (bit 2 flags) (unit_of s.address) s.repeat }

-- the samples of the block after the last three before it
unfoldable pub window_of : List ℤ → List ℕ → List ℤ
window_of samples bytes = drop 28 samples ++ block_of bytes (get_or samples 30 (pos 0)) (get_or samples 29 (pos 0))

unfoldable pub filled_of : Voice → List ℕ → Voice
filled_of v bytes =
    record {
      envelope = v.envelope;
      source = looped_of v.source (get_or bytes 1 0);
      position = v.position;
      playing = record { loaded = true; flags = get_or bytes 1 0; samples = window_of v.playing.samples bytes };
      ended = v.ended;
    }

-- "load the 16 bytes at the voice address, wrapping at L"
unfoldable pub load_of : Reader → ℕ → Voice → Prog Voice
load_of who size v = bind (bytes_from who size v.source.address 8) (λ bytes. done (filled_of v bytes))

-- ---- End rule

-- "Bit 0 clear: address + 16, modulo L. Set: .. address = repeat"
unfoldable pub next_of : ℕ → Source → ℕ → Source
next_of size s flags =
    record { address = cond (bit 0 flags) (address_of size s.repeat) (forward_of size s.address 16); repeat = s.repeat }

-- "if also bit 1 clear: Off, envelope 0"
unfoldable pub muted_of : Envelope → ℕ → Envelope
muted_of e flags = cond (bit 0 flags && not (bit 1 flags)) (record { phase = Off; level = 0; wait = 0 }) e

-- ".. ENDX bit set"
unfoldable pub ended_of : ℕ → Voice → Voice
ended_of size v =
    record {
      envelope = muted_of v.envelope v.playing.flags;
      source = next_of size v.source v.playing.flags;
      position = v.position;
      playing = v.playing;
      ended = v.ended || bit 0 v.playing.flags;
    }

-- ---- one tick

pub record Tick : Type 0 where
  pub voice : Voice
  pub amplitude : ℤ

-- "1. If no block is loaded, load .."
unfoldable pub ready_of : Reader → ℕ → Voice → Prog Voice
ready_of who size v = branch v.playing.loaded (done v) (load_of who size v)

-- "2. Interpolate the sample at the index and the three before it .. If NON is set, use noise as signed."
abbrev pub sample_at : Voice → ℕ → ℤ
sample_at v k = get_or v.playing.samples (v.position.index + k) (pos 0)

unfoldable pub sound_of : Settings → ℕ → Voice → ℤ
sound_of s level v =
    cond s.noise (signed 16 level)
    (interpolated_of (index_of v.position.counter) (sample_at v 0) (sample_at v 1) (sample_at v 2) (sample_at v 3))

-- "3. Amplitude = (that · envelope) / 8000h, rounded down, with the envelope before this tick's step."
unfoldable pub amplitude_of : Settings → ℕ → Voice → ℤ
amplitude_of s level v = product_of (sound_of s level v) (pos v.envelope.level)

-- "4. Envelope step. 5. Pitch step by 000's formula, with this tick's amplitude of the voice below; each 1000h moves one sample."
abbrev pub movement_of : Settings → ℤ → Voice → Moved
movement_of s below v = moved_of v.position.counter (step_of s.pitch s.modulated below)

unfoldable pub stepped_of : Settings → ℤ → Voice → Voice
stepped_of s below v =
    with_position (with_envelope v (ticked_of v.envelope s.low s.high)) (movement_of s below v).counter v.position.index

unfoldable pub target_of : Settings → ℤ → Voice → ℕ
target_of s below v = v.position.index + (movement_of s below v).moves

-- "Past sample 27: the end rule, then the next block is loaded at once."
unfoldable pub arrive_of : Reader → ℕ → ℕ → Voice → Prog Voice
arrive_of who size i v =
    branch (ltb 27 i)
    (load_of who size (ended_of size (with_position v v.position.counter (i - 28))))
    (done (with_position v v.position.counter i))

unfoldable pub moves_of : Reader → ℕ → Settings → ℤ → Voice → Prog Voice
moves_of who size s below v = arrive_of who size (target_of s below v) (stepped_of s below v)

abbrev pub is_idle : Phase → Bool
is_idle Idle = true
is_idle Attack = false
is_idle Decay = false
is_idle Sustain = false
is_idle Release = false
is_idle Off = false

-- "Idle: amplitude 0, no reads. Otherwise: 1 .. 5." Below is the amplitude of the voice below, level the noise's
unfoldable pub tick_of : Reader → ℕ → Settings → ℤ → ℕ → Voice → Prog Tick
tick_of who size s below level v =
    branch (is_idle v.envelope.phase)
    (done (record { voice = v; amplitude = pos 0 }))
    (bind (ready_of who size v) (λ w.
    bind (moves_of who size s below w) (λ x.
    done (record { voice = x; amplitude = amplitude_of s level w }))))
