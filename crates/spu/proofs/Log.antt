-- A run of ticks is the log of its ticks. Assumes nothing.
use mathlib.Core.Path.{◌≡◌, refl, ap, sym, ◌∙◌}
use mathlib.Core.Bool.{◌&&◌, not}
use mathlib.Core.List.{List, [], ◌∷◌, ◌++◌}
use Prim.Native.Nat.{ℕ, zero, suc, ◌+◌, ◌*◌, ◌/◌}
use native.Mathlib.Omega.{arith}
use borrow.Author.Tests.{eq-eqb}
use lib.ListN.{length, get_or, length-append}
use lib.IntN.{ℤ, pos}
use Rattle.soundram.specs.Address.{Lent}
use Rattle.soundram.specs.Memory.{half}
use Rattle.soundram.specs.Program.{Prog, done, read, write, Mem, mem_of, after_read, after_write, bind, run, trace}
use Rattle.soundram.specs.Calls.{Reply, Times, start_of, with_time, end_of, worked_of, time_of, times_of, outcome, log}
use Rattle.soundram.proofs.Programs.{run_bind, Always, ends, always_any, always_bind}
use Rattle.soundram.proofs.Times.{times_ram, times_marks, times_keep}
use Rattle.chip.specs.State.{Choices, State, state_ok, watch_of, watched_of}
use Rattle.chip.specs.Range.{Shaped, InRange}
use Rattle.chip.proofs.Tests.{in_range, passes}
use Rattle.stereo.specs.declared.Stereo.{Stereo}
use Rattle.tick.specs.Tick.{tick_of}
use Rattle.spu.specs.Step.{Call, run as running, ran, first_of, run_tests, tick_into, number_of, accepted_of, step_of, chip, outcome_of}
use Rattle.spu.specs.Log.{call_at, calls_of, with_tick, gathered}
use Rattle.spu.proofs.Range.{accepted_ok, into_in, watched_in}
use Rattle.spu.proofs.Lent.{lent_all, outcome_accepted}

-- ---- one call more

abbrev then : ℕ → Call → Times State → Times State
then k c t = with_tick k (outcome_of c t.state t.ram t.marks) t

gathered_more : (cs : List Call) (c : Call) (k n : ℕ) (t : Times State) → length cs + k ≡ n
    → then n c (gathered (log chip cs t.state t.ram t.marks) k t) ≡ gathered (log chip (cs ++ c ∷ []) t.state t.ram t.marks) k t
unfolding gathered log outcome_of
gathered_more [] c k n t e = let q : n ≡ k = omega arith in rw q
gathered_more (d ∷ cs) c k n t e = gathered_more cs c (suc k) n (then k d t) (omega arith)

calls_length : (cd : List ℤ) (n : ℕ) → length (calls_of cd n) ≡ n
unfolding calls_of
calls_length cd zero = refl
calls_length cd (suc n) = let h = calls_length cd n in simp length-append (omega arith)

-- ---- a tick of a run is the call

-- a program that gives another answer in the end makes the same accesses
trace_end : {A B : Type 0} (p : Prog A) (m : Mem) (f : A → B) → trace (bind p (λ a. done (f a))) m ≡ trace p m
unfolding bind trace
trace_end (done a) m f = refl
trace_end (read who c h k) m f = rw (trace_end (k (half m.ram h)) (after_read c h m) f) refl
trace_end (write h v p) m f = rw (trace_end p (after_write h v m) f) refl

worked_end : {A B : Type 0} (p : Prog A) (f : A → Reply B State) (s : State) (ram marks : List ℕ) → let m = mem_of ram marks (watch_of s) in
    let r = run p m in
    worked_of chip (bind p (λ a. done (f a))) s ram marks ≡ record {
      answer = (f r.answer).answer;
      irq = r.mem.watch.latch && not (watch_of s).latch;
      doubt = r.mem.watch.doubt && not (watch_of s).doubt;
      state = watched_of (f r.answer).state r.mem.watch;
      ram = r.mem.ram;
      marks = r.mem.marks;
      accesses = trace p m;
    }
unfolding worked_of run
worked_end p f s ram marks = let m = mem_of ram marks (watch_of s) in rw (run_bind p (λ a. done (f a)) m, trace_end p m f) refl

tick_same : (cd : List ℤ) (k : ℕ) (t : Times State) → number_of (call_at cd k) t.state (length t.ram) (length t.marks) ≡ 0 → time_of chip (tick_into cd) k t ≡ then k (call_at cd k) t
unfolding time_of tick_into outcome accepted_of
tick_same cd k t e =
    let p = tick_of t.state (get_or cd (k * 2) (pos 0)) (get_or cd (k * 2 + 1) (pos 0)) in
    ap (λ o. with_time k o t) (worked_end p _ t.state t.ram t.marks)
    ∙ sym (ap (λ o. with_tick k o t) (outcome_accepted (call_at cd k) t.state t.ram t.marks (sym e) refl refl ∙ worked_end p _ t.state t.ram t.marks))

-- ---- which is not refused

-- a tick leaves the choices as they are
same_choices : (s : State) (left right : ℤ) → Always (λ (a : Reply (Stereo ℤ) State). a.state.choices ≡ s.choices) (tick_of s left right)
unfolding tick_of
same_choices s left right = always_bind (always_any _) (λ b _. always_bind (always_any _) (λ _ _. always_bind (always_any _) (λ v _. ends refl)))

into_choices : (c : Choices) (cd : List ℤ) (k : ℕ) (so : Reply (List ℤ) State) → so.state.choices ≡ c → Always (λ (a : Reply (List ℤ) State). a.state.choices ≡ c) (tick_into cd k so)
unfolding tick_into
into_choices c cd k so e = always_bind (same_choices so.state _ _) (λ a q. ends (q ∙ e))

module _ (cd : List ℤ) (t : Times State) (range : InRange t.state) (lent : Lent t.state.choices.size t.ram t.marks) where
  -- after k ticks
  abbrev after : ℕ → Times State
  after k = times_of chip (tick_into cd) k t

  after_range : (k : ℕ) → InRange (after k).state
  after_range k = times_keep chip (tick_into cd) (λ r. InRange r.state) (λ r w q. watched_in w q) (into_in cd) k t range

  after_choices : (k : ℕ) → (after k).state.choices ≡ t.state.choices
  unfolding watched_of
  after_choices k = times_keep chip (tick_into cd) (λ r. r.state.choices ≡ t.state.choices) (λ r w q. q) (into_choices t.state.choices cd) k t refl

  tick_accepted : (k j : ℕ) → number_of (call_at cd j) (after k).state (length (after k).ram) (length (after k).marks) ≡ 0
  unfolding number_of first_of
  tick_accepted k j =
      let z = ap (λ (c : Choices). c.size) (after_choices k) in
      let d = lent.sized.sixteens in
      let a : length (after k).ram ≡ (after k).state.choices.size = times_ram chip (tick_into cd) k t ∙ lent.ram_size ∙ sym z in
      let b : length (after k).marks ≡ (after k).state.choices.size / 16 = rw (z, times_marks chip (tick_into cd) k t) (omega (arith, lent.marks_size)) in
      rw (eq-eqb _ _ a, eq-eqb _ _ b, passes (after k).state (after_range k))

  ticks_same : (k : ℕ) → after k ≡ gathered (log chip (calls_of cd k) t.state t.ram t.marks) 0 t
  unfolding times_of calls_of gathered log
  ticks_same zero = refl
  ticks_same (suc k) =
      let l = calls_length cd k in
      tick_same cd k (after k) (tick_accepted k k) ∙ ap (then k (call_at cd k)) (ticks_same k) ∙ gathered_more (calls_of cd k) (call_at cd k) 0 k t (omega arith)

-- "Every other call on the same state joins the list": an accepted run of n ticks gives and leaves what n calls `tick` give and leave, each on what the one
-- before it left
pub run_is_log : (cd out : List ℤ) (s : State) (ram marks : List ℕ) → Shaped s → number_of (running cd out) s (length ram) (length marks) ≡ 0
    → let n = length out / 2 in
    outcome_of (running cd out) s ram marks ≡ end_of n (λ irq doubt o. ran 0 n irq doubt o) (gathered (log chip (calls_of cd n) s ram marks) 0 (start_of n s ram marks out))
unfolding outcome_of step_of accepted_of outcome number_of
run_is_log cd out s ram marks h e =
    let n = length out / 2 in
    let r = in_range s (accepted_ok (running cd out) s (length ram) (length marks) e) h in
    rw (e, ticks_same cd (start_of n s ram marks out) r (lent_all (state_ok s) s (λ q. q) (run_tests (length cd) (length out)) ram marks (sym e) refl) n)
