-- Every accepted call leaves a state in range. Assumes nothing.
use mathlib.Core.Path.{◌≡◌, refl, sym, subst}
use mathlib.Core.Bool.{Bool, true, false, cond}
use mathlib.Core.List.{List, ◌∷◌}
use Prim.Native.Nat.{ℕ, suc}
use native.Mathlib.Omega.{arith}
use lib.Dec.{eqb}
use lib.ListN.{length}
use lib.IntN.{ℤ}
use borrow.Author.Tests.{not-false}
use Rattle.soundram.specs.declared.ByteAddress.{ByteAddress}
use Rattle.soundram.specs.Address.{forward_of, Sized}
use Rattle.soundram.specs.declared.Watch.{Watch}
use Rattle.soundram.specs.Calls.{Reply, Doing, still, works, repeats, worked_of, outcome}
use Rattle.soundram.proofs.Addresses.{forward_multiple, forward_below}
use Rattle.soundram.proofs.Programs.{Always, ends, always_bind, always_run}
use Rattle.soundram.proofs.Times.{times_keep}
use Rattle.registers.specs.Offsets.{listed}
use Rattle.chip.specs.State.{State, state_ok, watched_of}
use Rattle.chip.specs.Range.{Shaped, TransferIn, InRange}
use Rattle.chip.proofs.Tests.{in_range, sized}
use Rattle.chip.proofs.Ranges.{transfer_in_lem, fresh_state_in}
use Rattle.chip.proofs.WriteRanges.{write_in}
use Rattle.transfer.proofs.Moves.{inward_keeps, outward_keeps}
use Rattle.tick.proofs.Range.{tick_in}
use Rattle.spu.specs.Step.{Call, write, read, transfer_in, transfer_out, tick, tick_floats, run, run_floats, reset, view, status, Answer, Test, first_of, tests_of, number_of, refused_of, tick_into, accepted_of, step_of, chip}

-- ---- transfers

forward_even : {size : ℕ} {a : ByteAddress} → Sized size → TransferIn size a → TransferIn size (forward_of size a 2)
forward_even {size} {a} z e =
    let v = e.even in
    record { even = forward_multiple 2 size a 2 (omega arith) (omega arith); below = forward_below size a _ 2 refl e.below }

-- ---- every call

-- a state in range, that a call leaves, whatever is read; of one that works many times, that each time leaves if it finds one
abbrev Left : {A : Type 0} → Reply A State → Type 0
Left r = InRange r.state

abbrev Leaves : Doing Answer State → Type 0
Leaves (still a t) = InRange t
Leaves (works p) = Always Left p
Leaves (repeats n f out end) = (k : ℕ) (so : Reply (List ℤ) State) → Left so → Always Left (f k so)

-- of a list of tests that gives 0, none applies
pub passed_first : (b : Bool) (n : ℕ) (ts : List Test) → first_of (record { applies = b; number = suc n } ∷ ts) ≡ 0 → b ≡ false
unfolding first_of
passed_first true n ts e = absurd (omega arith)
passed_first false n ts e = refl

pub passed_rest : (b : Bool) (n : ℕ) (ts : List Test) → first_of (record { applies = b; number = suc n } ∷ ts) ≡ 0 → first_of ts ≡ 0
unfolding first_of
passed_rest true n ts e = absurd (omega arith)
passed_rest false n ts e = e

-- every call tests whether the state is in its ranges
pub tests_good : (c : Call) (good : Bool) (s : State) (ram marks : ℕ) → first_of (tests_of c good s ram marks) ≡ 0 → good ≡ true
tests_good (write offset v) good s ram marks e = not-false _ (passed_first _ 1 _ e)
tests_good (read offset) good s ram marks e = not-false _ (passed_first _ 1 _ e)
tests_good (transfer_in vs) good s ram marks e = not-false _ (passed_first _ 1 _ (passed_rest _ 0 _ e))
tests_good (transfer_out b) good s ram marks e = not-false _ (passed_first _ 1 _ (passed_rest _ 0 _ e))
tests_good (tick left right) good s ram marks e = not-false _ (passed_first _ 1 _ (passed_rest _ 0 _ e))
tests_good (tick_floats left right) good s ram marks e = not-false _ (passed_first _ 1 _ (passed_rest _ 0 _ e))
tests_good (run cd out) good s ram marks e = not-false _ (passed_first _ 1 _ (passed_rest _ 0 _ e))
tests_good (run_floats cd out fs) good s ram marks e = not-false _ (passed_first _ 1 _ (passed_rest _ 0 _ e))
tests_good reset good s ram marks e = not-false _ (passed_first _ 1 _ e)
tests_good (view a) good s ram marks e = not-false _ (passed_first _ 1 _ (passed_rest _ 0 _ e))
tests_good status good s ram marks e = not-false _ (passed_first _ 1 _ e)

pub accepted_ok : (c : Call) (s : State) (ram marks : ℕ) → number_of c s ram marks ≡ 0 → state_ok s ≡ true
unfolding number_of
accepted_ok c s ram marks e = tests_good c (state_ok s) s ram marks e

pub accepted_listed : (offset v : ℕ) (s : State) (ram marks : ℕ) → number_of (write offset v) s ram marks ≡ 0 → listed offset ≡ true
unfolding number_of
accepted_listed offset v s ram marks e = not-false _ (passed_first _ 2 _ (passed_rest _ 1 _ e))

pub into_in : (cd : List ℤ) (k : ℕ) (so : Reply (List ℤ) State) → Left so → Always Left (tick_into cd k so)
unfolding tick_into
into_in cd k so r = always_bind (tick_in _ _ r) (λ a q. ends q)

accepted_in : (c : Call) (s : State) (ram marks : ℕ) → number_of c s ram marks ≡ 0 → InRange s → Leaves (accepted_of c s)
unfolding accepted_of
accepted_in (write offset v) s ram marks e r = write_in s offset v (accepted_listed offset v s ram marks e) r
accepted_in (read offset) s ram marks e r = r
accepted_in (transfer_in vs) s ram marks e r =
    always_bind (inward_keeps (TransferIn s.choices.size) _ (λ a. forward_even (sized _ r.size)) s.transfer vs r.transfer) (λ a q. ends (transfer_in_lem r q))
accepted_in (transfer_out b) s ram marks e r =
    always_bind (outward_keeps (TransferIn s.choices.size) _ (λ a. forward_even (sized _ r.size)) s.transfer b r.transfer) (λ o q. ends (transfer_in_lem r q))
accepted_in (tick left right) s ram marks e r = always_bind (tick_in left right r) (λ a q. ends q)
accepted_in (tick_floats left right) s ram marks e r = always_bind (tick_in left right r) (λ a q. ends q)
accepted_in (run cd out) s ram marks e r = into_in cd
accepted_in (run_floats cd out fs) s ram marks e r = into_in cd
accepted_in reset s ram marks e r = fresh_state_in _ r.size
accepted_in (view a) s ram marks e r = r
accepted_in status s ram marks e r = r

-- what is watched is none of the ranges
pub watched_in : {s : State} (w : Watch) → InRange s → InRange (watched_of s w)
unfolding watched_of
watched_in w r = record { shaped = record { regs = r.shaped.regs; voices = r.shaped.voices }; size = r.size; voices = r.voices; capture = r.capture; place = r.place; transfer = r.transfer; noise = r.noise }

left_in : (d : Doing Answer State) (s : State) (ram marks : List ℕ) → InRange s → Leaves d → InRange (outcome chip d s ram marks).state
unfolding outcome worked_of
left_in (still a t) s ram marks r l = l
left_in (works p) s ram marks r l = watched_in _ (always_run l _)
left_in (repeats n f out end) s ram marks r l = times_keep chip f Left (λ so w q. watched_in w q) l n _ r

-- "a state field outside its range" is never the core's own doing: after an accepted call, the next finds the state in range
pub stays_in_range : (c : Call) (s : State) (ram marks : List ℕ) → Shaped s → number_of c s (length ram) (length marks) ≡ 0
    → InRange (outcome chip (step_of c s (length ram) (length marks)) s ram marks).state
unfolding step_of
stays_in_range c s ram marks h e =
    let r = in_range s (accepted_ok c s (length ram) (length marks) e) h in
    left_in _ s ram marks r
    (subst (λ (n : ℕ). Leaves (cond (eqb n 0) (accepted_of c s) (still (refused_of c n) s))) (sym e) (accepted_in c s (length ram) (length marks) e r))
