-- A tick in a run of ticks: where a run is, and how a tick of it ends. Assumes nothing.
use Rattle.std.specs.Prelude.{◌≡◌, ℕ, ◌+◌, ◌*◌, cond, not, ◌&&◌, List, ℤ, pos, slice_index_or, slice_set}
use Rattle.noise.specs.Noise.{ticked_of}
use Rattle.soundram.specs.declared.Watch.{Watch}
use Rattle.soundram.specs.Program.{Mem, Does}
use Rattle.registers.specs.Map.{register_at}
use Rattle.voice.specs.declared.Voice.{Voice}
use Rattle.voices.specs.Voices.{mixed_of}
use Rattle.chip.specs.State.{State, watch_of}
use Rattle.stereo.specs.declared.Stereo.{Stereo}
use Rattle.tick.specs.declared.Rest.{Rest}
use Rattle.tick.specs.declared.Going.{Going}
use Rattle.tick.specs.Tick.{close_of}

abbrev pub rest_of : State → Rest
rest_of s = record { noise = s.noise; applied = s.control.applied; capture = s.capture; reverb = s.reverb; tick = s.tick }

-- a state of its parts: what no tick changes, the voices, the rest, and what was watched
abbrev pub join_of : State → List Voice → Rest → Watch → State
join_of s voices r w =
    record {
      choices = s.choices;
      regs = s.regs;
      voices = voices;
      noise = r.noise;
      control = record { applied = r.applied; latch = w.latch; doubt = w.doubt };
      capture = r.capture;
      reverb = r.reverb;
      transfer = s.transfer;
      tick = r.tick;
    }

-- before a run of `count` ticks, of which none has reported
abbrev pub begin_of : State → ℕ → Going
begin_of s count = record { rest = rest_of s; noise = ticked_of s.noise (register_at s.regs 0x1AA); watch = watch_of s; irq = count; doubt = count }

-- tick k ends, of the amplitudes of its voices: h is where the run then is, its pair stands in the buffer, and the next tick's noise is made
pub record Finishes (regs : List ℕ) (size : ℕ) (g : Going) (amplitudes cd : List ℤ) (k : ℕ) (m : Mem) (before : List ℤ) (h : Going) (m' : Mem) (after : List ℤ) : Type 0 where
  pub pair : Stereo ℤ
  pub closes : Does (close_of regs size g.rest g.noise (mixed_of regs amplitudes 24) (slice_index_or cd (k * 2) (pos 0)) (slice_index_or cd (k * 2 + 1) (pos 0))) m
      (record { pair = pair; rest = h.rest }) m'
  pub out : after ≡ slice_set (slice_set before (k * 2) pair.left) (k * 2 + 1) pair.right
  pub noise : h.noise ≡ ticked_of h.rest.noise (register_at regs 0x1AA)
  pub irq : h.irq ≡ cond (h.watch.latch && not g.watch.latch) k g.irq
  pub doubt : h.doubt ≡ cond (h.watch.doubt && not g.watch.doubt) k g.doubt
