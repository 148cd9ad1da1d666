-- A call that works many times: what they leave, one after the other, and what all of them keep. Assumes nothing.
use mathlib.Core.Path.{◌≡◌, refl, ap, ◌∙◌}
use mathlib.Core.Bool.{cond, ◌&&◌, not}
use mathlib.Core.List.{List, ◌++◌}
use Prim.Native.Nat.{ℕ, zero, suc, ◌+◌}
use native.Mathlib.Numerals.{add-one}
use lib.ListN.{length}
use lib.IntN.{ℤ}
use Rattle.soundram.specs.Program.{Prog, mem_of, Result, Does, trace}
use Rattle.soundram.specs.Calls.{Reply, Time, Machine, Outcome, Times, with_time, worked_of, time_of, times_of}
use Rattle.soundram.specs.declared.Watch.{Watch}
use Rattle.soundram.proofs.Programs.{run_kept, Always, always_run}

module _ {C A S : Type 0} (M : Machine C A S) where
  -- a program that works on what is lent, from what it does
  pub worked_does : {B : Type 0} {p : Prog (Reply B S)} {s t : S} {ram marks ram' marks' : List ℕ} {v w : Watch} {a : B} → v ≡ M.watch s
      → Does p (mem_of ram marks v) (record { answer = a; state = t }) (mem_of ram' marks' w) → worked_of M p s ram marks ≡ record {
        answer = a;
        irq = w.latch && not v.latch;
        doubt = w.doubt && not v.doubt;
        state = M.watched t w;
        ram = ram';
        marks = marks';
        accesses = trace p (mem_of ram marks v);
      }
  unfolding worked_of
  worked_does {B} {p} {ram} {marks} {v} e d = rw (← e) (ap by d.ran)
    where
      by : Result (Reply B S) → Outcome B S
      by r =
          record {
            answer = r.answer.answer;
            irq = r.mem.watch.latch && not v.latch;
            doubt = r.mem.watch.doubt && not v.doubt;
            state = M.watched r.answer.state r.mem.watch;
            ram = r.mem.ram;
            marks = r.mem.marks;
            accesses = trace p (mem_of ram marks v);
          }

module _ {C A S : Type 0} (M : Machine C A S) (f : Time S) where
  pub times_none : (t : Times S) → times_of M f 0 t ≡ t
  unfolding times_of
  times_none t = refl

  pub times_more : (k : ℕ) (t : Times S) {u v : Times S} → times_of M f k t ≡ u → time_of M f k u ≡ v → times_of M f (k + 1) t ≡ v
  unfolding times_of
  times_more k t e g = rw (add-one k, e, g)

  -- time k, from what it does
  pub time_does : (k : ℕ) (t : Times S) {v w : Watch} {out : List ℤ} {s : S} {ram marks : List ℕ} → v ≡ M.watch t.state
      → Does (f k (record { answer = t.out; state = t.state })) (mem_of t.ram t.marks v) (record { answer = out; state = s }) (mem_of ram marks w)
      → time_of M f k t ≡ record {
        state = M.watched s w;
        ram = ram;
        marks = marks;
        out = out;
        irq = cond (w.latch && not v.latch) k t.irq;
        doubt = cond (w.doubt && not v.doubt) k t.doubt;
        accesses = t.accesses ++ trace (f k (record { answer = t.out; state = t.state })) (mem_of t.ram t.marks v);
      }
  unfolding time_of
  time_does k t e d = ap (λ o. with_time k o t) (worked_does M e d)

  -- no time changes the lengths of RAM and marks
  pub times_ram : (k : ℕ) (t : Times S) → length (times_of M f k t).ram ≡ length t.ram
  unfolding times_of time_of worked_of
  times_ram zero t = refl
  times_ram (suc k) t = (run_kept _ _).ram ∙ times_ram k t

  pub times_marks : (k : ℕ) (t : Times S) → length (times_of M f k t).marks ≡ length t.marks
  unfolding times_of time_of worked_of
  times_marks zero t = refl
  times_marks (suc k) t = (run_kept _ _).marks ∙ times_marks k t

  -- what each time keeps of the samples and the state, whatever is watched, all times keep
  module _ (P : Reply (List ℤ) S → Type 0) (watched : (r : Reply (List ℤ) S) (w : Watch) → P r → P (record { answer = r.answer; state = M.watched r.state w }))
      (each : (k : ℕ) (r : Reply (List ℤ) S) → P r → Always P (f k r)) where
    pub times_keep : (k : ℕ) (t : Times S) → P (record { answer = t.out; state = t.state })
        → P (record { answer = (times_of M f k t).out; state = (times_of M f k t).state })
    unfolding times_of time_of worked_of
    times_keep zero t p = p
    times_keep (suc k) t p = watched _ _ (always_run (each k _ (times_keep k t p)) _)
