-- What a run of ticks promises, and its parts: the voices of one tick, on the buffer. Assumes nothing.
use Rattle.std.specs.Prelude.{◌≡◌, List, ℕ, ◌/◌, length, ℤ}
use Rattle.envelope.specs.Adsr.{ticked_of}
use Rattle.soundram.specs.declared.Reader.{Reader}
use Rattle.soundram.specs.Program.{Prog, Mem, Does, repeat}
use Rattle.soundram.specs.Calls.{Times, start_of, times_of}
use Rattle.voice.specs.declared.Voice.{Voice}
use Rattle.voice.specs.Voice.{with_envelope, with_position, tick_of}
use Rattle.voices.specs.Voices.{settings_of, no_sums, mixed_of, voice_at}
use Rattle.chip.specs.State.{State, with_voices}
use Rattle.layout.specs.Layout.{state_of, voice_in, Holds}
use Rattle.layout.specs.Stores.{with_voice}
use Rattle.spu.specs.Step.{tick_into, chip}

-- voice n becomes what a program gives: xs is the buffer before it, ys after it
pub record Becomes (n : ℕ) (p : Prog Voice) (xs : List ℕ) (m : Mem) (ys : List ℕ) (m' : Mem) : Type 0 where
  pub voice : Voice
  pub does : Does p m voice m'
  pub holds : Holds ys (with_voice (state_of xs) n voice)

-- voice n after its envelope's step, and after its pitch step too, which leaves the index to the move that follows
abbrev pub enveloped : List ℕ → ℕ → Voice → Voice
enveloped regs n v = with_envelope v (ticked_of v.envelope (settings_of regs n).low (settings_of regs n).high)

abbrev pub moved_to : List ℕ → ℕ → ℕ → Voice → Voice
moved_to regs n counter v = with_position (enveloped regs n v) counter v.position.index

-- voice n plays its tick
pub record Plays (size : ℕ) (regs : List ℕ) (n : ℕ) (below : ℤ) (level : ℕ) (xs : List ℕ) (m : Mem) (amplitude : ℤ) (ys : List ℕ) (m' : Mem) : Type 0 where
  pub voice : Voice
  pub does : Does (tick_of (Reader.Voice n) size (settings_of regs n) below level (voice_in xs n)) m (record { voice = voice; amplitude = amplitude }) m'
  pub holds : Holds ys (with_voice (state_of xs) n voice)

-- all 24 do, one after the other
pub record PlaysAll (size : ℕ) (regs : List ℕ) (level : ℕ) (xs : List ℕ) (m : Mem) (amplitudes : List ℤ) (ys : List ℕ) (m' : Mem) : Type 0 where
  pub voices : List Voice
  pub does : Does (repeat (voice_at size regs level) 24 (record { voices = (state_of xs).voices; sums = no_sums })) m (record { voices = voices; sums = mixed_of regs amplitudes 24 }) m'
  pub holds : Holds ys (with_voices (state_of xs) voices)

-- a tick for each pair of the buffer out, each on what the one before it left
abbrev pub ticks_of : State → List ℕ → List ℕ → List ℤ → List ℤ → Times State
ticks_of s ram marks cd out = let n = length out / 2 in times_of chip (tick_into cd) n (start_of n s ram marks out)

pub record Runs (s : State) (r m : List ℕ) (cd o : List ℤ) (i d : ℕ) (ys r' m' : List ℕ) (o' : List ℤ) : Type 0 where
  pub holds : Holds ys (ticks_of s r m cd o).state
  pub ram : r' ≡ (ticks_of s r m cd o).ram
  pub marks : m' ≡ (ticks_of s r m cd o).marks
  pub out : o' ≡ (ticks_of s r m cd o).out
  pub irq : i ≡ (ticks_of s r m cd o).irq
  pub doubt : d ≡ (ticks_of s r m cd o).doubt
