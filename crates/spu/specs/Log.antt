-- A run of ticks as a list of calls, one for each tick. Assumes nothing.
use Rattle.std.specs.Prelude.{cond, List, [], ◌∷◌, ◌++◌, ℕ, zero, suc, ◌+◌, ◌*◌, get_or, set, ℤ, pos}
use Rattle.soundram.specs.Calls.{Outcome, Times}
use Rattle.chip.specs.State.{State}
use Rattle.stereo.specs.declared.Stereo.{Stereo}
use Rattle.spu.specs.Step.{Call, tick, Answer, written, value, moved, moved_out, pair, floats, ran, ran_floats, made, viewed, looked}

-- the call of tick k; past the end of the CD's buffer there is silence
abbrev pub call_at : List ℤ → ℕ → Call
call_at cd k = tick (get_or cd (k * 2) (pos 0)) (get_or cd (k * 2 + 1) (pos 0))

-- those of n ticks
unfoldable pub calls_of : List ℤ → ℕ → List Call
calls_of cd zero = []
calls_of cd (suc k) = calls_of cd k ++ call_at cd k ∷ []

abbrev silence : Stereo ℤ
silence = record { left = pos 0; right = pos 0 }

-- the pair of a tick's answer
abbrev pair_in : Answer → Stereo ℤ
pair_in (written n) = silence
pair_in (value n v) = silence
pair_in (moved n k) = silence
pair_in (moved_out n k b) = silence
pair_in (pair n p) = p
pair_in (floats n f) = silence
pair_in (ran n k i d o) = silence
pair_in (ran_floats n k i d o f) = silence
pair_in (made n) = silence
pair_in (viewed n k) = silence
pair_in (looked n d l t) = silence

-- a run, once tick k gave o: its pair goes to samples 2k and 2k+1
abbrev pub with_tick : ℕ → Outcome Answer State → Times State → Times State
with_tick k o t =
    record {
      state = o.state;
      ram = o.ram;
      marks = o.marks;
      out = set (set t.out (k * 2) (pair_in o.answer).left) (k * 2 + 1) (pair_in o.answer).right;
      irq = cond o.irq k t.irq;
      doubt = cond o.doubt k t.doubt;
      accesses = t.accesses ++ o.accesses;
    }

-- a run, once its ticks from k on gave these outcomes
unfoldable pub gathered : List (Outcome Answer State) → ℕ → Times State → Times State
gathered [] k t = t
gathered (o ∷ os) k t = gathered os (suc k) (with_tick k o t)
