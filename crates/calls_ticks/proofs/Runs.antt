-- Ticks and runs of them on a buffer, from the numbers that they give and a run's promise. Assumes nothing.
use mathlib.Core.Path.{◌≡◌, refl, sym, ◌∙◌}
use mathlib.Core.Bool.{Bool, true, false, cond, ◌&&◌, ◌||◌, not}
use mathlib.Core.List.{List, []}
use Prim.Native.Nat.{ℕ, ◌/◌, ◌%◌}
use native.Mathlib.Omega.{arith}
use lib.Dec.{eqb}
use lib.ListN.{length, get_or, set, length-set}
use lib.Seq.{get_or-set_same, get_or-set_other}
use lib.IntN.{ℤ, pos}
use Rattle.soundram.specs.Program.{mem_of, run, Result, Does, trace}
use Rattle.soundram.specs.Calls.{Reply, start_of}
use Rattle.soundram.proofs.Programs.{does_done, does_bind}
use Rattle.soundram.proofs.Times.{times_none, times_more, time_does}
use Rattle.chip.specs.State.{State, watch_of, watched_of}
use Rattle.layout.specs.Layout.{state_of, is_state, Halfwords}
use Rattle.stereo.specs.declared.Stereo.{Stereo}
use Rattle.tick.specs.Tick.{tick_of}
use Rattle.tick_runs.specs.Run.{ticks_of, Runs}
use Rattle.spu.specs.Step as spu
use Rattle.spu.specs.Step.{tick, pair, ran, lent_tests, run_tests, refused_of, accepted_of, tick_into, chip}
use Rattle.spu.proofs.Numbers.{here, later, none, lent_refused, lent_passed}
use Rattle.spu.proofs.Lent.{leaves_works, leaves_repeats}
use Rattle.spu.proofs.Runs.{into_does}
use Rattle.calls.specs.Kept.{tested_of, number_in, Keeps, reports}
use Rattle.calls.proofs.Kept.{accepted_number, kept_refused, kept_leaves, tested_more, tested_on}

-- ---- numbers of a run

module _ (xs : List ℕ) (ram marks cd out : ℕ) {n : ℕ} (e : n ≡ tested_of xs (lent_tests (is_state xs) (state_of xs) ram marks [])) where
  pub run_lent : (n ≡ 0 → ⊥) → n ≡ tested_of xs (lent_tests (is_state xs) (state_of xs) ram marks (run_tests cd out))
  run_lent z = tested_more xs _ _ e z (λ q. lent_refused (is_state xs) (state_of xs) ram marks _ q z)

  pub run_25 : (b : Bool) → n ≡ 0 → b ≡ true → b ≡ ((not (eqb cd 0) && not (eqb cd out)) || not (eqb (out % 2) 0)) → 25 ≡ tested_of xs (lent_tests (is_state xs) (state_of xs) ram marks (run_tests cd out))
  run_25 b z t f = tested_on xs _ _ e z (λ q. lent_passed (is_state xs) (state_of xs) ram marks _ q z (here _ 25 _ (sym f ∙ t)))

  pub run_0 : (b : Bool) → n ≡ 0 → b ≡ false → b ≡ ((not (eqb cd 0) && not (eqb cd out)) || not (eqb (out % 2) 0)) → 0 ≡ tested_of xs (lent_tests (is_state xs) (state_of xs) ram marks (run_tests cd out))
  run_0 b z t f = tested_on xs _ _ e z (λ q. lent_passed (is_state xs) (state_of xs) ram marks _ q z (later _ 25 _ (sym f ∙ t) none))

-- ---- a tick, as a run of one

-- the only tick of a run reported, or none did
first : (b : Bool) → eqb (cond b 0 1) 0 ≡ b
first true = refl
first false = refl

at_0 : (o : List ℤ) (x y : ℤ) → length o ≡ 2 → get_or (set (set o 0 x) 1 y) 0 (pos 0) ≡ x
at_0 o x y l = get_or-set_other (set o 0 x) 1 0 y (pos 0) (λ e. omega arith) ∙ get_or-set_same o 0 x (pos 0) (omega arith)

at_1 : (o : List ℤ) (x y : ℤ) → length o ≡ 2 → get_or (set (set o 0 x) 1 y) 1 (pos 0) ≡ y
at_1 o x y l = let h = length-set o 0 x in get_or-set_same (set o 0 x) 1 y (pos 0) (omega arith)

module _ (s : State) (left right : ℤ) (r m : List ℕ) (cd o : List ℤ) (el : get_or cd 0 (pos 0) ≡ left) (er : get_or cd 1 (pos 0) ≡ right) (len : length o ≡ 2) where
  abbrev x : Result (Reply (Stereo ℤ) State)
  x = run (tick_of s left right) (mem_of r m (watch_of s))

  once : ticks_of s r m cd o ≡ record {
    state = watched_of x.answer.state x.mem.watch;
    ram = x.mem.ram;
    marks = x.mem.marks;
    out = set (set o 0 x.answer.answer.left) 1 x.answer.answer.right;
    irq = cond (x.mem.watch.latch && not (watch_of s).latch) 0 1;
    doubt = cond (x.mem.watch.doubt && not (watch_of s).doubt) 0 1;
    accesses = trace (tick_into cd 0 (record { answer = o; state = s })) (mem_of r m (watch_of s));
  }
  once =
      let d : Does (tick_of s (get_or cd 0 (pos 0)) (get_or cd 1 (pos 0))) (mem_of r m (watch_of s)) x.answer x.mem = rw (el, er) (record { ran = refl }) in
      rw len (times_more chip (tick_into cd) 0 (start_of 1 s r m o) (times_none chip (tick_into cd) _) (time_does chip (tick_into cd) 0 (start_of 1 s r m o) refl (into_does cd 0 (record { answer = o; state = s }) d)))

module _ (xs : List ℕ) (left right : ℤ) (r m : List ℕ) {n : ℕ} (e : n ≡ tested_of xs (lent_tests (is_state xs) (state_of xs) (length r) (length m) [])) where
  tick_number : n ≡ number_in (tick left right) xs (length r) (length m)
  unfolding number_in
  tick_number = e

  pub tick_no : (n ≡ 0 → ⊥) → Keeps (tick left right) xs r m (pair n (record { left = pos 0; right = pos 0 })) false false xs r m
  unfolding refused_of
  tick_no z = kept_refused (tick left right) xs r m tick_number z

  -- a, b are what stands in the buffer of a run of one tick
  pub tick_yes : (cd o : List ℤ) {o' : List ℤ} {i d : ℕ} {ys r' m' : List ℕ} {a b : ℤ} → n ≡ 0 → Runs (state_of xs) r m cd o i d ys r' m' o' → Halfwords ys
      → get_or cd 0 (pos 0) ≡ left → get_or cd 1 (pos 0) ≡ right → length o ≡ 2 → a ≡ get_or o' 0 (pos 0) → b ≡ get_or o' 1 (pos 0)
      → Keeps (tick left right) xs r m (pair n (record { left = a; right = b })) (eqb i 0) (eqb d 0) ys r' m'
  unfolding accepted_of
  tick_yes cd o z q w el er len ea eb =
      let s = state_of xs in
      let y = x s left right r m cd o el er len in
      let t = once s left right r m cd o el er len in
      let p = y.answer.answer in
      rw z (kept_leaves (tick left right) xs r m tick_number z
      (rw (
        ea,
        eb,
        q.ram,
        q.marks,
        q.out,
        q.irq,
        q.doubt,
        t,
        first (y.mem.watch.latch && not (watch_of s).latch),
        first (y.mem.watch.doubt && not (watch_of s).doubt),
        at_0 o p.left p.right len,
        at_1 o p.left p.right len,
      ) (leaves_works (tick left right) s r m (accepted_number (tick left right) xs (length r) (length m) tick_number z) refl refl (does_bind {n = y.mem} {a = y.answer} _ (record { ran = refl }) (does_done _ _))))
      q.holds w)

-- ---- a run

module _ (xs : List ℕ) (r m : List ℕ) (cd out : List ℤ) {n : ℕ} (e : n ≡ tested_of xs (lent_tests (is_state xs) (state_of xs) (length r) (length m) (run_tests (length cd) (length out)))) where
  run_number : n ≡ number_in (spu.run cd out) xs (length r) (length m)
  unfolding number_in
  run_number = e

  pub run_no : (n ≡ 0 → ⊥) → Keeps (spu.run cd out) xs r m (ran n 0 0 0 out) false false xs r m
  unfolding refused_of
  run_no z = kept_refused (spu.run cd out) xs r m run_number z

  pub run_yes : {out' : List ℤ} {i d : ℕ} {ys r' m' : List ℕ} → n ≡ 0 → Runs (state_of xs) r m cd out i d ys r' m' out' → Halfwords ys
      → Keeps (spu.run cd out) xs r m (ran n (length out / 2) i d out') (reports i (length out / 2)) (reports d (length out / 2)) ys r' m'
  unfolding accepted_of
  run_yes z q w =
      rw z (kept_leaves (spu.run cd out) xs r m run_number z
      (rw (q.ram, q.marks, q.out, q.irq, q.doubt) (leaves_repeats (spu.run cd out) (state_of xs) r m (accepted_number (spu.run cd out) xs (length r) (length m) run_number z) refl refl refl)) q.holds w)
