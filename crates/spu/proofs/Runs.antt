-- A tick of a run, from what the tick does. Assumes nothing.
use mathlib.Core.List.{List}
use Prim.Native.Nat.{ℕ, ◌+◌, ◌*◌}
use lib.ListN.{get_or, set}
use lib.IntN.{ℤ, pos}
use Rattle.soundram.specs.Program.{Mem, Does}
use Rattle.soundram.specs.Calls.{Reply}
use Rattle.soundram.proofs.Programs.{does_done, does_bind}
use Rattle.chip.specs.State.{State}
use Rattle.stereo.specs.declared.Stereo.{Stereo}
use Rattle.tick.specs.Tick.{tick_of}
use Rattle.spu.specs.Step.{tick_into}

pub into_does : (cd : List ℤ) (k : ℕ) (so : Reply (List ℤ) State) {m m' : Mem} {p : Stereo ℤ} {t : State}
    → Does (tick_of so.state (get_or cd (k * 2) (pos 0)) (get_or cd (k * 2 + 1) (pos 0))) m (record { answer = p; state = t }) m'
    → Does (tick_into cd k so) m (record { answer = set (set so.answer (k * 2) p.left) (k * 2 + 1) p.right; state = t }) m'
unfolding tick_into
into_does cd k so d = does_bind _ d (does_done _ _)
