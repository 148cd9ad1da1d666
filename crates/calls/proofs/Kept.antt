-- Calls on a buffer, from the numbers that they give and what the calls on its state leave. Assumes nothing.
use mathlib.Core.Path.{◌≡◌, refl, sym, ◌∙◌}
use mathlib.Core.Bool.{Bool, true, false, cond, not, ◌&&◌, ◌||◌}
use mathlib.Core.List.{List, [], ◌∷◌}
use Prim.Native.Nat.{ℕ, ◌/◌}
use native.Mathlib.Omega.{arith}
use borrow.Author.Tests.{eq-eqb, ne_eqb, not-false}
use lib.Dec.{eqb}
use lib.ListN.{length}
use Rattle.fixed.proofs.Bools.{and_first, and_rest}
use Rattle.soundram.specs.declared.Watch.{Watch}
use Rattle.soundram.specs.Address.{Lent}
use Rattle.soundram.specs.Program.{Prog, mem_of, Does}
use Rattle.soundram.specs.Calls.{Reply, still, works, outcome}
use Rattle.chip.specs.State.{State, state_ok, watch_of, watched_of}
use Rattle.chip.specs.Range.{InRange}
use Rattle.layout.specs.Layout.{state_length, state_of, is_tagged, is_well_formed, is_state, Holds, Halfwords}
use Rattle.layout.proofs.Laws.{form_tagged, formed, registers_count, voices_count}
use Rattle.layout.proofs.Encoding.{holds_buffer}
use Rattle.range_check.proofs.Tests.{other_length}
use Rattle.spu.specs.Step.{Call, Answer, Test, first_of, outside, lent_tests, tests_of, number_of, refused_of, accepted_of, step_of, outcome_of, Leaves}
use Rattle.spu.proofs.Range.{tests_good, passed_first, passed_rest, stays_in_range}
use Rattle.spu.proofs.Lent.{lent_all, leaves_still, leaves_works}
use Rattle.spu.proofs.Numbers as numbers
use Rattle.spu.proofs.Numbers.{here, later, lent_refused, lent_passed, lent_1, lent_2, lent_0}
use Rattle.calls.specs.Kept.{tested_of, number_in, kept_of, Keeps}

-- ---- the number of a call on a buffer, and of the call on the state that stands in it

module _ (xs : List ℕ) where
  pub state_formed : is_state xs ≡ true → is_well_formed xs ≡ true
  unfolding is_state
  state_formed e = and_first (is_well_formed xs) _ e

  pub state_ok_lem : is_state xs ≡ true → state_ok (state_of xs) ≡ true
  unfolding is_state
  state_ok_lem e = and_rest (is_well_formed xs) _ e

  form_state : is_well_formed xs ≡ true → is_state xs ≡ state_ok (state_of xs)
  unfolding is_state
  form_state e = rw e

module _ (c : Call) (xs : List ℕ) (ram marks : ℕ) where
  pub form_number : is_well_formed xs ≡ true → number_in c xs ram marks ≡ number_of c (state_of xs) ram marks
  unfolding number_in number_of
  form_number e = rw (form_tagged xs e, form_state xs e)

  -- an accepted call finds a state
  pub accepted_state : {n : ℕ} → n ≡ number_in c xs ram marks → n ≡ 0 → is_state xs ≡ true
  unfolding number_in
  accepted_state e z = by (is_tagged xs) (sym e ∙ z)
    where
      by : (b : Bool) → cond b (first_of (tests_of c (is_state xs) (state_of xs) ram marks)) 2 ≡ 0 → is_state xs ≡ true
      by true q = tests_good c (is_state xs) (state_of xs) ram marks q
      by false q = absurd (no q)
        where
          no : ◌≡◌ {A = ℕ} 2 0 → ⊥
          no q = omega arith

  pub accepted_number : {n : ℕ} → n ≡ number_in c xs ram marks → n ≡ 0 → 0 ≡ number_of c (state_of xs) ram marks
  accepted_number e z = sym z ∙ e ∙ form_number (state_formed xs (accepted_state e z))

-- ---- refused, and accepted

module _ (c : Call) (xs r m : List ℕ) {n : ℕ} (e : n ≡ number_in c xs (length r) (length m)) where
  -- "A refusal returns the state as handed in"
  refused_state : (n ≡ 0 → ⊥) → is_well_formed xs ≡ true → (outcome_of c (state_of xs) r m).state ≡ state_of xs
  unfolding outcome_of step_of outcome
  refused_state z f = let q = e ∙ form_number c xs (length r) (length m) f in rw (← q, ne_eqb n 0 z)

  pub kept_refused : (n ≡ 0 → ⊥) → Keeps c xs r m (refused_of c n) false false xs r m
  unfolding kept_of
  kept_refused z =
      let k = ne_eqb n 0 z in
      record {
        answer = rw (← e, k);
        irq = rw (← e, k);
        doubt = rw (← e, k);
        state = rw (← e, k);
        ram = rw (← e, k);
        marks = rw (← e, k);
        holds = λ f. record { formed = formed xs f; state = sym (refused_state z f) };
      }

  -- ys holds the state that the call on the state leaves
  pub kept_leaves : {a : Answer} {i d : Bool} {t : State} {ys r' m' : List ℕ} → n ≡ 0 → Leaves c (state_of xs) r m a i d t r' m' → Holds ys t → Halfwords ys → Keeps c xs r m a i d ys r' m'
  unfolding kept_of
  kept_leaves z l h w =
      let k = eq-eqb n 0 z in
      let b = holds_buffer h w in
      record {
        answer = rw (← e, k) l.answer;
        irq = rw (← e, k) l.irq;
        doubt = rw (← e, k) l.doubt;
        state = rw (← e, k, ← l.state) b;
        ram = rw (← e, k) l.ram;
        marks = rw (← e, k) l.marks;
        holds = λ _. record { formed = h.formed; state = h.state ∙ l.state };
      }

  -- p is what the call does, w the watch after it
  pub kept_works : {p : Prog (Reply Answer State)} {a : Answer} {t : State} {w : Watch} {ys r' m' : List ℕ} → n ≡ 0 → accepted_of c (state_of xs) ≡ works p
      → Does p (mem_of r m (watch_of (state_of xs))) (record { answer = a; state = t }) (mem_of r' m' w) → Holds ys (watched_of t w) → Halfwords ys
      → Keeps c xs r m a (w.latch && not (watch_of (state_of xs)).latch) (w.doubt && not (watch_of (state_of xs)).doubt) ys r' m'
  kept_works z f d h w = kept_leaves z (leaves_works c (state_of xs) r m (accepted_number c xs (length r) (length m) e z) refl f d) h w

  -- and leaves a state in range
  pub works_in_range : {p : Prog (Reply Answer State)} {a : Answer} {t : State} {w : Watch} {r' m' : List ℕ} → n ≡ 0 → accepted_of c (state_of xs) ≡ works p
      → Does p (mem_of r m (watch_of (state_of xs))) (record { answer = a; state = t }) (mem_of r' m' w) → InRange (watched_of t w)
  unfolding outcome_of
  works_in_range z f d =
      let q = accepted_number c xs (length r) (length m) e z in
      rw (leaves_works c (state_of xs) r m q refl f d).state (stays_in_range c (state_of xs) r m (record { regs = registers_count xs; voices = voices_count xs }) (sym q))

  -- a call that touches no memory
  pub kept_still : {a : Answer} {t : State} {ys : List ℕ} → n ≡ 0 → accepted_of c (state_of xs) ≡ still a t → Holds ys t → Halfwords ys → Keeps c xs r m a false false ys r m
  kept_still z f h w = kept_leaves z (leaves_still c (state_of xs) r m (accepted_number c xs (length r) (length m) e z) refl f) h w

-- ---- the first test that applies, of a buffer with a state's tag

pub tagged_not : (xs : List ℕ) (ts : List Test) → is_tagged xs ≡ false → 2 ≡ tested_of xs ts
tagged_not xs ts t = rw t

pub tagged_yes : (xs : List ℕ) (ts : List Test) {n : ℕ} → is_tagged xs ≡ true → n ≡ first_of ts → n ≡ tested_of xs ts
tagged_yes xs ts t f = rw t f

-- a buffer of another length has no tag
pub other_not : (xs : List ℕ) (ts : List Test) → (length xs ≡ state_length → ⊥) → 2 ≡ tested_of xs ts
other_not xs ts h = tagged_not xs ts (other_length xs h)

-- a number that other tests before it give: n is theirs
pub tested_more : (xs : List ℕ) (ss ts : List Test) {n : ℕ} → n ≡ tested_of xs ss → (n ≡ 0 → ⊥) → (n ≡ first_of ss → n ≡ first_of ts) → n ≡ tested_of xs ts
tested_more xs ss ts {n} e z f = by (is_tagged xs) e
  where
    by : (b : Bool) → n ≡ cond b (first_of ss) 2 → n ≡ cond b (first_of ts) 2
    by true q = f q
    by false q = q

pub tested_on : (xs : List ℕ) (ss ts : List Test) {n m : ℕ} → n ≡ tested_of xs ss → n ≡ 0 → (n ≡ first_of ss → m ≡ first_of ts) → m ≡ tested_of xs ts
tested_on xs ss ts {n} {m} e z f = by (is_tagged xs) e
  where
    by : (b : Bool) → n ≡ cond b (first_of ss) 2 → m ≡ cond b (first_of ts) 2
    by true q = f q
    by false q = absurd (no (sym z ∙ q))
      where
        no : ◌≡◌ {A = ℕ} 0 2 → ⊥
        no q = omega arith

-- ---- the tests of a call's own, after those of what is lent and of the state, which n is the code's number of

module _ (xs : List ℕ) (ram marks : ℕ) (ts : List Test) {n : ℕ} (e : n ≡ tested_of xs (lent_tests (is_state xs) (state_of xs) ram marks [])) where
  pub lent_more : (n ≡ 0 → ⊥) → n ≡ tested_of xs (lent_tests (is_state xs) (state_of xs) ram marks ts)
  lent_more z = tested_more xs _ _ e z (λ q. lent_refused (is_state xs) (state_of xs) ram marks ts q z)

  pub lent_on : {m : ℕ} → n ≡ 0 → m ≡ first_of ts → m ≡ tested_of xs (lent_tests (is_state xs) (state_of xs) ram marks ts)
  lent_on z f = tested_on xs _ _ e z (λ q. lent_passed (is_state xs) (state_of xs) ram marks ts q z f)

-- ---- what an accepted call that is lent RAM and marks may rely on

pub tested_all : (xs : List ℕ) (ts : List Test) {n : ℕ} → n ≡ tested_of xs ts → n ≡ 0 → n ≡ first_of ts
tested_all xs ts {n} e z = by (is_tagged xs) e
  where
    by : (b : Bool) → n ≡ cond b (first_of ts) 2 → n ≡ first_of ts
    by true q = q
    by false q = absurd (no (sym z ∙ q))
      where
        no : ◌≡◌ {A = ℕ} 0 2 → ⊥
        no q = omega arith

-- of their lengths
pub lent_good : (xs : List ℕ) (ram marks : ℕ) (ts : List Test) {n : ℕ} → n ≡ tested_of xs (lent_tests (is_state xs) (state_of xs) ram marks ts) → n ≡ 0 → is_state xs ≡ true
lent_good xs ram marks ts e z = not-false _ (passed_first _ 1 _ (passed_rest _ 0 _ (sym (tested_all xs _ e z) ∙ z)))

module _ (xs ram marks : List ℕ) (ts : List Test) {n : ℕ} (e : n ≡ tested_of xs (lent_tests (is_state xs) (state_of xs) (length ram) (length marks) ts)) (z : n ≡ 0) where
  pub lent_state : is_state xs ≡ true
  lent_state = lent_good xs (length ram) (length marks) ts e z

  pub lent_lent : Lent (state_of xs).choices.size ram marks
  lent_lent = lent_all (is_state xs) (state_of xs) (state_ok_lem xs) ts ram marks (tested_all xs _ e z) z

-- ---- the code's tests of the tagged buffer ys, which is xs: z is the L in it, a the test of the whole state

module _ (xs : List ℕ) {ys : List ℕ} (t : (ys ≡ xs) × (is_tagged xs ≡ true)) where
  pub tagged_is : is_tagged ys ≡ true
  tagged_is = rw t.0 t.1

  pub size_is : {z : ℕ} → z ≡ (state_of ys).choices.size → z ≡ (state_of xs).choices.size
  size_is e = rw t.0 at e

  pub test_is : {a : Bool} → a ≡ is_state ys → a ≡ is_state xs
  test_is e = rw t.0 at e

  module _ (ram marks : ℕ) {z : ℕ} (ez : z ≡ (state_of ys).choices.size) where
    pub lent_is_1 : (not (eqb ram z) || not (eqb marks (z / 16))) ≡ true → 1 ≡ tested_of xs (lent_tests (is_state xs) (state_of xs) ram marks [])
    lent_is_1 q = tagged_yes xs _ t.1 (lent_1 (is_state xs) (state_of xs) ram marks [] (rw (size_is ez) at q))

    module _ {a : Bool} (ea : a ≡ is_state ys) (q : (not (eqb ram z) || not (eqb marks (z / 16))) ≡ false) where
      pub lent_is_2 : not a ≡ true → 2 ≡ tested_of xs (lent_tests (is_state xs) (state_of xs) ram marks [])
      lent_is_2 n = tagged_yes xs _ t.1 (lent_2 (is_state xs) (state_of xs) ram marks [] (rw (size_is ez) at q) (test_is ea) n)

      pub lent_is_0 : not a ≡ false → 0 ≡ tested_of xs (lent_tests (is_state xs) (state_of xs) ram marks [])
      lent_is_0 n = tagged_yes xs _ t.1 (lent_0 (is_state xs) (state_of xs) ram marks (rw (size_is ez) at q) (test_is ea) n)

  module _ {a : Bool} (ea : a ≡ is_state ys) where
    pub state_is_2 : not a ≡ true → 2 ≡ tested_of xs (outside (is_state xs) ∷ [])
    state_is_2 n = tagged_yes xs _ t.1 (here _ 2 _ (rw (← test_is ea) n))

    pub state_is_0 : not a ≡ false → 0 ≡ tested_of xs (outside (is_state xs) ∷ [])
    state_is_0 n = tagged_yes xs _ t.1 (later _ 2 _ (rw (← test_is ea) n) numbers.none)
