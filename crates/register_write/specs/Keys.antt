-- The steps of a write that concerns voices, each on the whole state. Assumes nothing.
use Rattle.std.specs.Prelude.{Bool, cond, ℕ, get_or}
use Rattle.voice.specs.declared.Voice.{Voice}
use Rattle.voice.specs.Voice.{stopped_of}
use Rattle.voices.specs.Voices.{past_end}
use Rattle.chip.specs.State.{State, with_voices}
use Rattle.chip.specs.Registers.{keyed, on_bits, on_keys, stop_first}
use Rattle.layout.specs.Stores.{with_voice}

-- voice n after it is keyed on or off by its registers
abbrev pub keyed_in : Bool → State → ℕ → Voice
keyed_in on s n = keyed on s.choices.size s.regs n (get_or s.voices n past_end)

-- the state with it
abbrev pub key_voice : Bool → State → ℕ → State
key_voice on s n = with_voice s n (keyed_in on s n)

-- the same, if a bit is set
abbrev pub key_if : Bool → Bool → State → ℕ → State
key_if set on s n = with_voice s n (cond set (keyed_in on s n) (get_or s.voices n past_end))

-- for each of count bits, and for a pair of key registers
abbrev pub key_bits : Bool → State → ℕ → ℕ → ℕ → State
key_bits on s value first count = with_voices s (on_bits (keyed on s.choices.size s.regs) value first s.voices count)

abbrev pub key_pair : Bool → State → ℕ → ℕ → State
key_pair on s second value = with_voices s (on_keys (keyed on s.choices.size s.regs) second value s.voices)

-- voice n stopped, and the first n of them
abbrev pub stop_voice : State → ℕ → State
stop_voice s n = with_voice s n (stopped_of (get_or s.voices n past_end))

abbrev pub stop_voices : State → ℕ → State
stop_voices s n = with_voices s (stop_first s.voices n)
