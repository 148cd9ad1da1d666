-- Demand 3 of any sound machine. Assumes nothing.
use mathlib.Core.Path.{◌≡◌, refl, ap, ap₂, sym, subst, ◌∙◌}
use mathlib.Core.Bool.{Bool, true, false, cond, ◌||◌, ◌&&◌, not, and-true, or_assoc, false≢true}
use mathlib.Core.List.{List, [], ◌∷◌, ◌++◌}
use Prim.Native.Nat.{ℕ, zero, suc, ◌≤◌, ◌<◌}
use native.Mathlib.Omega.{arith}
use borrow.Author.Tests.{eq-eqb, ne_eqb}
use lib.Dec.{eqb}
use lib.ListN.{length}
use lib.IntN.{ℤ}
use Rattle.fixed.proofs.Bools.{or_first, or_rest}
use Rattle.soundram.specs.Memory.{marked}
use Rattle.soundram.specs.Program.{Prog, mem_of, run, Access, is_unmarked, any_unmarked, trace}
use Rattle.soundram.specs.TwoRuns.{AgreeAt, Agree, Same, doubted, alike, Safe}
use Rattle.soundram.specs.Calls.{Reply, Time, Doing, still, works, repeats, Machine, Outcome, Times, start_of, with_time, end_of, worked_of, time_of, times_of, outcome, log, Alike, Sure, Doubtful, Indistinct, both_end, both_sure, both_doubt, SafeDoing, Sound}
use Rattle.soundram.specs.declared.Watch.{Watch}
use Rattle.soundram.proofs.Programs.{doubt_is}
use Rattle.soundram.proofs.TwoRuns.{two_runs}

any_append : (xs ys : List Access) → any_unmarked (xs ++ ys) ≡ (any_unmarked xs || any_unmarked ys)
unfolding any_unmarked
any_append [] ys = refl
any_append (x ∷ xs) ys = ap (λ (b : Bool). is_unmarked x || b) (any_append xs ys) ∙ sym (or_assoc (is_unmarked x) (any_unmarked xs) (any_unmarked ys))

-- the time that reported, of n: d before time k, which reports if o
stays_other : (n k d : ℕ) (o : Bool) → k < n → not (eqb d n) ≡ true → not (eqb (cond o k d) n) ≡ true
stays_other n k d true h e = rw (ne_eqb k n (λ q. absurd (omega arith)))
stays_other n k d false h e = e

becomes_other : (n k d : ℕ) (o : Bool) → k < n → o ≡ true → not (eqb (cond o k d) n) ≡ true
becomes_other n k d true h e = rw (ne_eqb k n (λ q. absurd (omega arith)))
becomes_other n k d false h e = absurd (false≢true e)

-- the report is what the counted reads met
sure : {A S : Type 0} {o : Outcome A S} → o.doubt ≡ any_unmarked o.accesses → o.doubt ≡ false → Sure o
sure r e = record { report = e; met = sym r ∙ e }

doubtful : {A S : Type 0} {o : Outcome A S} → o.doubt ≡ any_unmarked o.accesses → o.doubt ≡ true → Doubtful o
doubtful r e = record { report = e; met = sym r ∙ e }

module _ {C A S : Type 0} (M : Machine C A S) where
  -- what time k gives
  abbrev given : Time S → ℕ → Times S → Outcome (List ℤ) S
  given f k t = worked_of M (f k (record { answer = t.out; state = t.state })) t.state t.ram t.marks

  -- ---- doubt is reported exactly when a counted read meets an unmarked halfword, from a state with doubt clear

  module _ {B : Type 0} (p : Prog (Reply B S)) (s : S) (ram marks : List ℕ) (clear : (M.watch s).doubt ≡ false) where
    worked_doubt : (worked_of M p s ram marks).doubt ≡ (run p (mem_of ram marks (M.watch s))).mem.watch.doubt
    unfolding worked_of
    worked_doubt = ap (λ (b : Bool). (run p (mem_of ram marks (M.watch s))).mem.watch.doubt && not b) clear ∙ and-true _

    worked_reports : (worked_of M p s ram marks).doubt ≡ any_unmarked (worked_of M p s ram marks).accesses
    unfolding worked_of
    worked_reports = worked_doubt ∙ doubt_is p (mem_of ram marks (M.watch s)) ∙ ap (λ (b : Bool). b || any_unmarked (trace p (mem_of ram marks (M.watch s)))) clear

  module _ (sound : Sound M) where
    worked_clear : {B : Type 0} (p : Prog (Reply B S)) (s : S) (ram marks : List ℕ) → (M.watch s).doubt ≡ false → any_unmarked (worked_of M p s ram marks).accesses ≡ false
        → (M.watch (worked_of M p s ram marks).state).doubt ≡ false
    unfolding worked_of
    worked_clear p s ram marks e f = sound.kept _ _ ∙ doubt_is p (mem_of ram marks (M.watch s)) ∙ ap₂ ◌||◌ e f

    -- of n times, those so far
    record Told (n : ℕ) (t : Times S) : Type 0 where
      report : not (eqb t.doubt n) ≡ any_unmarked t.accesses
      clear : any_unmarked t.accesses ≡ false → (M.watch t.state).doubt ≡ false

    time_told : (n k : ℕ) (o : Outcome (List ℤ) S) (t : Times S) → k < n → ((M.watch t.state).doubt ≡ false → o.doubt ≡ any_unmarked o.accesses)
        → ((M.watch t.state).doubt ≡ false → any_unmarked o.accesses ≡ false → (M.watch o.state).doubt ≡ false) → Told n t → Told n (with_time k o t)
    time_told n k o t h f g told =
        record {
          report = by (any_unmarked t.accesses) refl ∙ sym (any_append t.accesses o.accesses);
          clear =
              λ e.
              let q = sym (any_append t.accesses o.accesses) ∙ e in
              g (told.clear (or_first (any_unmarked t.accesses) _ q)) (or_rest (any_unmarked t.accesses) _ q);
        }
      where
        by : (b : Bool) → any_unmarked t.accesses ≡ b → not (eqb (cond o.doubt k t.doubt) n) ≡ (b || any_unmarked o.accesses)
        by true e = stays_other n k t.doubt o.doubt h (told.report ∙ e)
        by false e = rw (f (told.clear e)) (of (any_unmarked o.accesses))
          where
            of : (c : Bool) → not (eqb (cond c k t.doubt) n) ≡ c
            of true = becomes_other n k t.doubt true h refl
            of false = told.report ∙ e

    times_told : (n : ℕ) (f : Time S) (s : S) (ram marks : List ℕ) (out : List ℤ) → (M.watch s).doubt ≡ false → (k : ℕ) → k ≤ n
        → Told n (times_of M f k (start_of n s ram marks out))
    unfolding times_of time_of any_unmarked
    times_told n f s ram marks out e zero h = record { report = rw (eq-eqb n n refl); clear = λ _. e }
    times_told n f s ram marks out e (suc k) h =
        let t = times_of M f k (start_of n s ram marks out) in
        time_told n k (given f k t) t (omega arith) (worked_reports _ _ _ _) (worked_clear _ _ _ _) (times_told n f s ram marks out e k (omega arith))

    pub reports : (d : Doing A S) (s : S) (ram marks : List ℕ) → (M.watch s).doubt ≡ false
        → (outcome M d s ram marks).doubt ≡ any_unmarked (outcome M d s ram marks).accesses
    unfolding outcome any_unmarked
    reports (still a t) s ram marks e = refl
    reports (works p) s ram marks e = worked_reports p s ram marks e
    reports (repeats n f out end) s ram marks e = (times_told n f s ram marks out e n (omega arith)).report

  -- ---- two runs

  -- one call in both runs: they go on alike, with doubt still clear, or both doubt
  data Both {B : Type 0} (o p : Outcome B S) : Type 0 where
    on : Sure o → Sure p → Alike o p → (M.watch o.state).doubt ≡ false → Both o p
    stop : Doubtful o → Doubtful p → Both o p

  module _ (sound : Sound M) where
    module _ {B : Type 0} (p : Prog (Reply B S)) (s : S) (r t marks : List ℕ) (clear : (M.watch s).doubt ≡ false) where
      reported : (ram : List ℕ) → (worked_of M p s ram marks).doubt ≡ any_unmarked (worked_of M p s ram marks).accesses
      reported ram = worked_reports p s ram marks clear

      doubt_after : (ram : List ℕ) {b : Bool} → (run p (mem_of ram marks (M.watch s))).mem.watch.doubt ≡ b → (worked_of M p s ram marks).doubt ≡ b
      doubt_after ram f = worked_doubt p s ram marks clear ∙ f

      went : (b : Bool) → (run p (mem_of r marks (M.watch s))).mem.watch.doubt ≡ b
          → (run p (mem_of r marks (M.watch s))).answer ≡ (run p (mem_of t marks (M.watch s))).answer
          → Agree (run p (mem_of r marks (M.watch s))).mem (run p (mem_of t marks (M.watch s))).mem
          → Both (worked_of M p s r marks) (worked_of M p s t marks)
      unfolding worked_of
      went true f e g = stop (doubtful (reported r) (doubt_after r f)) (doubtful (reported t) (doubt_after t (ap (λ (w : Watch). w.doubt) (sym g.watch) ∙ f)))
      went false f e g =
          on (sure (reported r) (doubt_after r f)) (sure (reported t) (doubt_after t (ap (λ (w : Watch). w.doubt) (sym g.watch) ∙ f)))
          (record {
            answer = ap (λ (x : Reply B S). x.answer) e;
            irq = ap (λ (w : Watch). w.latch && not (M.watch s).latch) g.watch;
            state = ap₂ M.watched (ap (λ (x : Reply B S). x.state) e) g.watch;
            marks = g.marks;
            len = g.len;
            ram = g.ram;
          })
          (sound.kept _ _ ∙ f)

      ran : Same (λ x y. x ≡ y) (run p (mem_of r marks (M.watch s))) (run p (mem_of t marks (M.watch s))) → Both (worked_of M p s r marks) (worked_of M p s t marks)
      ran (doubted x y) = stop (doubtful (reported r) (doubt_after r x)) (doubtful (reported t) (doubt_after t y))
      ran (alike e g) = went _ refl e g

      worked_both : length r ≡ length t → ((h : ℕ) → marked marks h ≡ true → AgreeAt r t h) → Safe p → Both (worked_of M p s r marks) (worked_of M p s t marks)
      worked_both len agree safe = ran (two_runs safe _ _ (record { marks = refl; watch = refl; len = len; ram = agree }))

    -- of n times, those so far: they went on alike, with doubt still clear
    record Level (n : ℕ) (t u : Times S) : Type 0 where
      none : t.doubt ≡ n
      same : t.doubt ≡ u.doubt
      clear : (M.watch t.state).doubt ≡ false
      irq : t.irq ≡ u.irq
      out : t.out ≡ u.out
      state : t.state ≡ u.state
      marks : t.marks ≡ u.marks
      len : length t.ram ≡ length u.ram
      ram : (h : ℕ) → marked t.marks h ≡ true → AgreeAt t.ram u.ram h

    data BothTimes (n : ℕ) (t u : Times S) : Type 0 where
      going : Level n t u → BothTimes n t u
      gone : not (eqb t.doubt n) ≡ true → not (eqb u.doubt n) ≡ true → BothTimes n t u

    time_both : (n k : ℕ) (o p : Outcome (List ℤ) S) (t u : Times S) → k < n → (Level n t u → Both o p) → BothTimes n t u → BothTimes n (with_time k o t) (with_time k p u)
    time_both n k o p t u h f (gone x y) = gone (stays_other n k t.doubt o.doubt h x) (stays_other n k u.doubt p.doubt h y)
    time_both n k o p t u h f (going l) = by (f l)
      where
        by : Both o p → BothTimes n (with_time k o t) (with_time k p u)
        by (stop x y) = gone (becomes_other n k t.doubt o.doubt h x.report) (becomes_other n k u.doubt p.doubt h y.report)
        by (on x y a c) =
            going (record {
              none = rw x.report l.none;
              same = rw (x.report, y.report) l.same;
              clear = c;
              irq = ap₂ (λ (b : Bool) (i : ℕ). cond b k i) a.irq l.irq;
              out = a.answer;
              state = a.state;
              marks = a.marks;
              len = a.len;
              ram = a.ram;
            })

    module _ (n : ℕ) (f : Time S) (safe : (k : ℕ) (r : Reply (List ℤ) S) → Safe (f k r)) where
      once_both : (k : ℕ) (t u : Times S) → Level n t u → Both (given f k t) (given f k u)
      once_both k t u l =
          rw (← l.state, ← l.marks, ← l.out) (worked_both (f k (record { answer = t.out; state = t.state })) t.state t.ram u.ram t.marks l.clear l.len l.ram (safe k _))

      times_both : (t u : Times S) → Level n t u → (k : ℕ) → k ≤ n → BothTimes n (times_of M f k t) (times_of M f k u)
      unfolding times_of time_of
      times_both t u l zero h = going l
      times_both t u l (suc k) h = time_both n k _ _ _ _ (omega arith) (once_both k _ _) (times_both t u l k (omega arith))

    ended : (n : ℕ) (end : ℕ → ℕ → List ℤ → A) (t u : Times S) → Told sound n t → Told sound n u → BothTimes n t u → Both (end_of n end t) (end_of n end u)
    ended n end t u x y (gone e f) = stop (doubtful x.report e) (doubtful y.report f)
    ended n end t u x y (going l) =
        on (sure x.report (rw (eq-eqb t.doubt n l.none))) (sure y.report (rw (eq-eqb u.doubt n (sym l.same ∙ l.none))))
        (record {
          answer = rw (l.irq, l.same, l.out);
          irq = rw l.irq;
          state = l.state;
          marks = l.marks;
          len = l.len;
          ram = l.ram;
        })
        l.clear

    module _ (s : S) (r t marks : List ℕ) (clear : (M.watch s).doubt ≡ false) (len : length r ≡ length t) (agree : (h : ℕ) → marked marks h ≡ true → AgreeAt r t h) where
      one : (d : Doing A S) → SafeDoing d → ((a : A) (u : S) → d ≡ still a u → (M.watch u).doubt ≡ false) → Both (outcome M d s r marks) (outcome M d s t marks)
      unfolding outcome any_unmarked
      one (still a u) q f =
          on (record { report = refl; met = refl }) (record { report = refl; met = refl })
          (record { answer = refl; irq = refl; state = refl; marks = refl; len = len; ram = agree }) (f a u refl)
      one (works p) q f = worked_both p s r t marks clear len agree q
      one (repeats n g out end) q f =
          ended n end _ _ (times_told sound n g s r marks out clear n (omega arith)) (times_told sound n g s t marks out clear n (omega arith))
          (times_both n g q _ _ (record { none = refl; same = refl; clear = clear; irq = refl; out = refl; state = refl; marks = refl; len = len; ram = agree }) n (omega arith))

  module _ (sound : Sound M) where
    more : {o p : Outcome A S} (cs : List C) → Both o p
        → ((u : S) (r t ms : List ℕ) → (M.watch u).doubt ≡ false → length r ≡ length t → ((h : ℕ) → marked ms h ≡ true → AgreeAt r t h)
        → Indistinct (log M cs u r ms) (log M cs u t ms))
        → Indistinct (o ∷ log M cs o.state o.ram o.marks) (p ∷ log M cs p.state p.ram p.marks)
    more cs (stop x y) ih = both_doubt x y
    more {o} {p} cs (on x y l c) ih =
        both_sure x y l
        (subst (λ (u : S). Indistinct (log M cs o.state o.ram o.marks) (log M cs u p.ram p.marks)) l.state
        (subst (λ (ms : List ℕ). Indistinct (log M cs o.state o.ram o.marks) (log M cs o.state p.ram ms)) l.marks
        (ih o.state o.ram p.ram o.marks c l.len l.ram)))

    -- DEMAND 3: two runs of any list of calls, from one state with doubt clear and one marks, on RAMs of one length that agree on marked halfwords
    pub demand_3 : (cs : List C) (s : S) (r t marks : List ℕ) → (M.watch s).doubt ≡ false → length r ≡ length t
        → ((h : ℕ) → marked marks h ≡ true → AgreeAt r t h) → Indistinct (log M cs s r marks) (log M cs s t marks)
    unfolding log
    demand_3 [] s r t marks c l g = both_end
    demand_3 (k ∷ cs) s r t marks c l g =
        subst (λ (n : ℕ). Indistinct (log M (k ∷ cs) s r marks) (outcome M (M.step k s n (length marks)) s t marks ∷ log M cs (outcome M (M.step k s n (length marks)) s t marks).state (outcome M (M.step k s n (length marks)) s t marks).ram (outcome M (M.step k s n (length marks)) s t marks).marks)) l
        (more cs (one sound s r t marks c l g (M.step k s (length r) (length marks)) (sound.safe k s (length r) (length marks)) (λ a u e. sound.quiet k s u _ _ a e c)) (demand_3 cs))

-- a core that reports doubt where every counted read met a marked halfword, or reports none where one met an unmarked one, has no place in it
pub no_idle_doubt : {A S : Type 0} {o p : Outcome A S} {os ps : List (Outcome A S)} → o.doubt ≡ true → any_unmarked o.accesses ≡ false → Indistinct (o ∷ os) (p ∷ ps) → ⊥
no_idle_doubt r m (both_sure x y l i) = false≢true (sym x.report ∙ r)
no_idle_doubt r m (both_doubt x y) = false≢true (sym m ∙ x.met)

pub no_missed_doubt : {A S : Type 0} {o p : Outcome A S} {os ps : List (Outcome A S)} → o.doubt ≡ false → any_unmarked o.accesses ≡ true → Indistinct (o ∷ os) (p ∷ ps) → ⊥
no_missed_doubt r m (both_sure x y l i) = false≢true (sym x.met ∙ m)
no_missed_doubt r m (both_doubt x y) = false≢true (sym r ∙ x.report)
