-- Demand 3 of the chip. Assumes nothing.
use mathlib.Core.Path.{◌≡◌, refl, subst, ◌∙◌}
use mathlib.Core.Bool.{true, false}
use mathlib.Core.List.{List}
use Prim.Native.Nat.{ℕ}
use lib.Dec.{eqb}
use lib.ListN.{length}
use lib.IntN.{ℤ}
use Rattle.soundram.specs.Memory.{marked}
use Rattle.soundram.specs.TwoRuns.{AgreeAt, Safe}
use Rattle.soundram.specs.Calls.{Reply, Doing, still, works, repeats, log, Indistinct, SafeDoing, Sound}
use Rattle.soundram.proofs.TwoRuns.{safe_done, safe_bind}
use Rattle.soundram.proofs.Calls as calls
use Rattle.chip.specs.State.{State, fresh_of, watch_of, watched_of}
use Rattle.chip.proofs.Writes.{of_both, write_doubt}
use Rattle.spu.specs.Step.{Call, write, read, transfer_in, transfer_out, tick, tick_floats, run, run_floats, reset, view, status, Answer, number_of, tick_into, accepted_of, step_of, chip}
use Rattle.transfer.proofs.Moves.{safe_inward, safe_outward}
use Rattle.tick.proofs.Safe.{safe_tick}

safe_into : (cd : List ℤ) (k : ℕ) (so : Reply (List ℤ) State) → Safe (tick_into cd k so)
unfolding tick_into
safe_into cd k so = safe_bind (safe_tick so.state _ _) (λ r. safe_done _)

accepted_safe : (c : Call) (s : State) → SafeDoing (accepted_of c s)
unfolding accepted_of
accepted_safe (write offset v) s = tt
accepted_safe (read offset) s = tt
accepted_safe (transfer_in vs) s = safe_bind (safe_inward _ _ vs) (λ a. safe_done _)
accepted_safe (transfer_out b) s = safe_bind (safe_outward _ _ _) (λ m. safe_done _)
accepted_safe (tick left right) s = safe_bind (safe_tick s left right) (λ r. safe_done _)
accepted_safe (tick_floats left right) s = safe_bind (safe_tick s left right) (λ r. safe_done _)
accepted_safe (run cd out) s = safe_into cd
accepted_safe (run_floats cd out fs) s = safe_into cd
accepted_safe reset s = tt
accepted_safe (view a) s = tt
accepted_safe status s = tt

-- a call that touches no memory, and leaves doubt clear
abbrev Clear : Doing Answer State → Type 0
Clear (still a t) = t.control.doubt ≡ false
Clear (works p) = Unit {0}
Clear (repeats n f out end) = Unit {0}

accepted_clear : (c : Call) (s : State) → s.control.doubt ≡ false → Clear (accepted_of c s)
unfolding accepted_of fresh_of
accepted_clear (write offset v) s e = write_doubt s offset v ∙ e
accepted_clear (read offset) s e = e
accepted_clear (transfer_in vs) s e = tt
accepted_clear (transfer_out b) s e = tt
accepted_clear (tick left right) s e = tt
accepted_clear (tick_floats left right) s e = tt
accepted_clear (run cd out) s e = tt
accepted_clear (run_floats cd out fs) s e = tt
accepted_clear reset s e = refl
accepted_clear (view a) s e = e
accepted_clear status s e = e

chip_sound : Sound chip
unfolding step_of watch_of watched_of
chip_sound =
    record {
      safe = λ c s n m. of_both SafeDoing (eqb (number_of c s n m) 0) (accepted_safe c s) tt;
      quiet = λ c s t n m a e clear. subst Clear e (of_both Clear (eqb (number_of c s n m) 0) (accepted_clear c s clear) clear);
      kept = λ s w. refl;
    }

-- DEMAND 3: "For every list of calls, two runs from the same state and marks, whose RAMs agree on loaded halfwords, give equal answers up to the
-- first report of doubt, and that comes in both at the same call, exactly when a counted read first meets a halfword that nobody loaded."
-- The state is in range or not, RAM and marks are of any lengths, refused calls are among the list's.
pub demand_3 : (cs : List Call) (s : State) (r t marks : List ℕ) → s.control.doubt ≡ false → length r ≡ length t
    → ((h : ℕ) → marked marks h ≡ true → AgreeAt r t h) → Indistinct (log chip cs s r marks) (log chip cs s t marks)
unfolding watch_of
demand_3 cs s r t marks clear len agree = calls.demand_3 chip chip_sound cs s r t marks clear len agree
