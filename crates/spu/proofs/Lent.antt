-- Calls that are lent RAM and marks, from the numbers that they give and what they do. Assumes nothing.
use mathlib.Core.Path.{◌≡◌, refl, sym, ap, ◌∙◌}
use mathlib.Core.Bool.{Bool, true, false, ◌&&◌, not}
use mathlib.Core.List.{List}
use Prim.Native.Nat.{ℕ, ◌/◌}
use native.Mathlib.Omega.{arith}
use borrow.Author.Tests.{eqb-true, not-false}
use lib.Dec.{eqb}
use lib.ListN.{length}
use lib.IntN.{ℤ}
use Rattle.fixed.proofs.Bools.{or_first, or_rest}
use Rattle.soundram.specs.declared.Watch.{Watch}
use Rattle.soundram.specs.Address.{Lent}
use Rattle.soundram.specs.Program.{Prog, mem_of, Does}
use Rattle.soundram.specs.Calls.{Reply, Time, Doing, still, works, repeats, Outcome, Times, start_of, end_of, times_of, outcome}
use Rattle.soundram.proofs.Times.{worked_does}
use Rattle.chip.specs.State.{State, state_ok, watch_of, watched_of}
use Rattle.chip.proofs.Tests.{ok_sized}
use Rattle.spu.specs.Step.{Call, Answer, Test, first_of, lent_tests, number_of, accepted_of, step_of, chip, outcome_of, Leaves}
use Rattle.spu.proofs.Range.{passed_first, passed_rest}

-- ---- what an accepted call may rely on

module _ (good : Bool) (s : State) (ok : good ≡ true → state_ok s ≡ true) (ts : List Test) {n : ℕ} where
  pub lent_ok : (ram marks : ℕ) → n ≡ first_of (lent_tests good s ram marks ts) → n ≡ 0 → state_ok s ≡ true
  lent_ok ram marks e z = ok (not-false _ (passed_first _ 1 _ (passed_rest _ 0 _ (sym e ∙ z))))

  pub lent_all : (ram marks : List ℕ) → n ≡ first_of (lent_tests good s (length ram) (length marks) ts) → n ≡ 0 → Lent s.choices.size ram marks
  lent_all ram marks e z =
      let l = passed_first _ 0 _ (sym e ∙ z) in
      let k = ok_sized s (lent_ok (length ram) (length marks) e z) in
      let a : length ram ≡ s.choices.size = eqb-true _ _ (not-false _ (or_first (not (eqb (length ram) s.choices.size)) _ l)) in
      let b : length marks ≡ s.choices.size / 16 = eqb-true _ _ (not-false _ (or_rest (not (eqb (length ram) s.choices.size)) _ l)) in
      let d = k.sixteens in
      record { ram_size = a; marks_size = omega arith; sized = k }

-- ---- accepted

leaves_of : (c : Call) (s : State) (r m : List ℕ) (o : Outcome Answer State) → outcome_of c s r m ≡ o → Leaves c s r m o.answer o.irq o.doubt o.state o.ram o.marks
leaves_of c s r m o e =
    record {
      answer = ap (λ (x : Outcome Answer State). x.answer) (sym e);
      irq = ap (λ (x : Outcome Answer State). x.irq) (sym e);
      doubt = ap (λ (x : Outcome Answer State). x.doubt) (sym e);
      state = ap (λ (x : Outcome Answer State). x.state) (sym e);
      ram = ap (λ (x : Outcome Answer State). x.ram) (sym e);
      marks = ap (λ (x : Outcome Answer State). x.marks) (sym e);
    }

module _ (c : Call) (s : State) (r m : List ℕ) {n : ℕ} (e : n ≡ number_of c s (length r) (length m)) where
  pub outcome_accepted : {d : Doing Answer State} → n ≡ 0 → accepted_of c s ≡ d → outcome_of c s r m ≡ outcome chip d s r m
  unfolding outcome_of step_of
  outcome_accepted z f = rw (← e, z, f)

  pub leaves_still : {a : Answer} {t : State} → n ≡ 0 → accepted_of c s ≡ still a t → Leaves c s r m a false false t r m
  unfolding outcome
  leaves_still z f = leaves_of c s r m _ (outcome_accepted z f)

  -- p is what the call does, w the watch after it
  pub leaves_works : {p : Prog (Reply Answer State)} {a : Answer} {t : State} {w : Watch} {r' m' : List ℕ} → n ≡ 0 → accepted_of c s ≡ works p
      → Does p (mem_of r m (watch_of s)) (record { answer = a; state = t }) (mem_of r' m' w)
      → Leaves c s r m a (w.latch && not (watch_of s).latch) (w.doubt && not (watch_of s).doubt) (watched_of t w) r' m'
  unfolding outcome
  leaves_works z f d = leaves_of c s r m _ (outcome_accepted z f ∙ worked_does chip refl d)

  -- f is what each of k times does, t what they leave
  pub leaves_repeats : {k : ℕ} {f : Time State} {out : List ℤ} {end : ℕ → ℕ → List ℤ → Answer} {t : Times State} → n ≡ 0 → accepted_of c s ≡ repeats k f out end
      → times_of chip f k (start_of k s r m out) ≡ t → Leaves c s r m (end t.irq t.doubt t.out) (not (eqb t.irq k)) (not (eqb t.doubt k)) t.state t.ram t.marks
  unfolding outcome
  leaves_repeats {k} {end} z g h = leaves_of c s r m _ (outcome_accepted z g ∙ ap (end_of k end) h)
