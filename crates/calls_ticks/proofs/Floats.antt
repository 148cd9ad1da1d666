-- Ticks and runs with their samples as floats. Assumes nothing.
use mathlib.Core.Path.{◌≡◌, refl, sym, ap, ◌∙◌}
use mathlib.Core.Bool.{Bool, true, false, cond}
use mathlib.Core.List.{List, [], ◌∷◌, ◌++◌, map}
use Prim.Native.Nat.{ℕ, ◌+◌, ◌/◌, ◌<◌}
use native.Mathlib.Omega.{arith}
use native.Mathlib.Numerals.{add-one}
use borrow.Author.Tests.{eq-eqb, ne_eqb}
use lib.Dec.{eqb}
use lib.ListN.{length, get_or, set, take, length-map, get_or-map}
use lib.Seq.{take-suc, take-suc-set}
use lib.IntN.{ℤ, pos}
use lib.Ieee.{Float}
use Rattle.stereo.specs.declared.Stereo.{Stereo}
use Rattle.stereo.specs.Float.{float_of, stereo_of}
use Rattle.soundram.specs.Program.{done, mem_of, run}
use Rattle.soundram.specs.Calls.{Reply, still, Outcome, worked_of, outcome}
use Rattle.soundram.proofs.Programs.{run_bind}
use Rattle.chip.specs.State.{State, state_ok, watch_of}
use Rattle.layout.specs.Layout.{state_of, buffer_of, is_state, Halfwords}
use Rattle.tick.specs.Tick.{tick_of}
use Rattle.tick_runs.specs.Run.{Runs}
use Rattle.spu.specs.Step.{tick, tick_floats, run_floats, Answer, written, value, moved, moved_out, pair, floats, ran, ran_floats, made, viewed, looked, Test, test, first_of, lent_tests, run_tests, floats_tests, number_of, refused_of, accepted_of, step_of, chip, outcome_of}
use Rattle.spu.proofs.Numbers.{here, later, none}
use Rattle.spu.proofs.Lent.{leaves_repeats}
use Rattle.calls.specs.Kept.{tested_of, number_in, kept_of, Keeps, reports}
use Rattle.calls.proofs.Kept.{accepted_number, kept_refused, kept_leaves, tested_more, tested_on}

-- ---- the loop that makes them

pub floats_more : (out : List ℤ) (n : ℕ) (fs : List Float) {x : Float} → n < length out → length fs ≡ length out → take n fs ≡ take n (map float_of out)
    → x ≡ float_of (get_or out n (pos 0)) → take (n + 1) (set fs n x) ≡ take (n + 1) (map float_of out)
floats_more out n fs {x} h l e f =
    let k = length-map out float_of in
    rw (add-one, take-suc-set fs n x (omega arith), take-suc (map float_of out) n (float_of (pos 0)) (omega arith), get_or-map float_of out n (pos 0), e, f)

-- of tests after those that gave n
first_stays : (ts us : List Test) → (first_of ts ≡ 0 → ⊥) → first_of (ts ++ us) ≡ first_of ts
unfolding first_of
first_stays [] us z = absurd (z refl)
first_stays (t ∷ ts) us z = by t.applies z (first_stays ts us)
  where
    by : (b : Bool) → (cond b t.number (first_of ts) ≡ 0 → ⊥) → ((first_of ts ≡ 0 → ⊥) → first_of (ts ++ us) ≡ first_of ts) → cond b t.number (first_of (ts ++ us)) ≡ cond b t.number (first_of ts)
    by true y k = refl
    by false y k = k y

first_goes_on : (a b c : Bool) (us : List Test) → first_of (test a 1 ∷ test b 2 ∷ test c 25 ∷ []) ≡ 0 → first_of (test a 1 ∷ test b 2 ∷ test c 25 ∷ us) ≡ first_of us
unfolding first_of
first_goes_on true b c us e = absurd (omega arith)
first_goes_on false true c us e = absurd (omega arith)
first_goes_on false false true us e = absurd (omega arith)
first_goes_on false false false us e = refl

-- ---- a tick

-- the pair as floats
as_floats : Answer → Answer
as_floats (written n) = written n
as_floats (value n v) = value n v
as_floats (moved n k) = moved n k
as_floats (moved_out n k b) = moved_out n k b
as_floats (pair n p) = floats n (stereo_of p.left p.right)
as_floats (floats n f) = floats n f
as_floats (ran n k i d o) = ran n k i d o
as_floats (ran_floats n k i d o f) = ran_floats n k i d o f
as_floats (made n) = made n
as_floats (viewed n k) = viewed n k
as_floats (looked n d l t) = looked n d l t

record Floated {S : Type 0} (o p : Outcome Answer S) : Type 0 where
  answer : o.answer ≡ as_floats p.answer
  irq : o.irq ≡ p.irq
  doubt : o.doubt ≡ p.doubt
  state : o.state ≡ p.state
  ram : o.ram ≡ p.ram
  marks : o.marks ≡ p.marks

floated : (s : State) (left right : ℤ) (r m : List ℕ) → Floated (outcome_of (tick_floats left right) s r m) (outcome_of (tick left right) s r m)
unfolding outcome_of step_of number_of accepted_of refused_of outcome worked_of as_floats run
floated s left right r m = by (eqb (first_of (lent_tests (state_ok s) s (length r) (length m) [])) 0)
  where
    n : ℕ
    n = first_of (lent_tests (state_ok s) s (length r) (length m) [])

    by : (b : Bool) → Floated (outcome chip (cond b (accepted_of (tick_floats left right) s) (still (refused_of (tick_floats left right) n) s)) s r m)
        (outcome chip (cond b (accepted_of (tick left right) s) (still (refused_of (tick left right) n) s)) s r m)
    by false = record { answer = refl; irq = refl; doubt = refl; state = refl; ram = refl; marks = refl }
    by true =
        rw (
          run_bind {B = Reply Answer State} (tick_of s left right) (λ (x : Reply (Stereo ℤ) State). done (record { answer = floats 0 (stereo_of x.answer.left x.answer.right); state = x.state })) (mem_of r m (watch_of s)),
          run_bind {B = Reply Answer State} (tick_of s left right) (λ (x : Reply (Stereo ℤ) State). done (record { answer = pair 0 x.answer; state = x.state })) (mem_of r m (watch_of s)),
        ) (record { answer = refl; irq = refl; doubt = refl; state = refl; ram = refl; marks = refl })

-- the same of the calls on a buffer
kept_floated : (xs : List ℕ) (left right : ℤ) (r m : List ℕ) → Floated (kept_of (tick_floats left right) xs r m) (kept_of (tick left right) xs r m)
unfolding kept_of number_in refused_of as_floats
kept_floated xs left right r m = by (eqb (tested_of xs (lent_tests (is_state xs) (state_of xs) (length r) (length m) [])) 0)
  where
    n : ℕ
    n = tested_of xs (lent_tests (is_state xs) (state_of xs) (length r) (length m) [])

    f : Outcome Answer State
    f = outcome_of (tick_floats left right) (state_of xs) r m

    t : Outcome Answer State
    t = outcome_of (tick left right) (state_of xs) r m

    by : (b : Bool)
        → Floated {S = List ℕ}
        (cond b (record { answer = f.answer; irq = f.irq; doubt = f.doubt; state = buffer_of f.state; ram = f.ram; marks = f.marks; accesses = f.accesses })
        (record { answer = refused_of (tick_floats left right) n; irq = false; doubt = false; state = xs; ram = r; marks = m; accesses = [] }))
        (cond b (record { answer = t.answer; irq = t.irq; doubt = t.doubt; state = buffer_of t.state; ram = t.ram; marks = t.marks; accesses = t.accesses })
        (record { answer = refused_of (tick left right) n; irq = false; doubt = false; state = xs; ram = r; marks = m; accesses = [] }))
    by false = record { answer = refl; irq = refl; doubt = refl; state = refl; ram = refl; marks = refl }
    by true =
        let g = floated (state_of xs) left right r m in
        record { answer = g.answer; irq = g.irq; doubt = g.doubt; state = ap buffer_of g.state; ram = g.ram; marks = g.marks }

pub floats_as : (xs : List ℕ) (left right : ℤ) (r m : List ℕ) {n : ℕ} {l k a b a' b' : ℤ} {f : Stereo Float} {i d : Bool} {ys r' m' : List ℕ} → l ≡ left → k ≡ right
    → Keeps (tick l k) xs r m (pair n (record { left = a; right = b })) i d ys r' m' → f ≡ stereo_of a' b' → a' ≡ a → b' ≡ b → Keeps (tick_floats left right) xs r m (floats n f) i d ys r' m'
unfolding as_floats
floats_as xs left right r m el ek q ef ea eb =
    let g = kept_floated xs left right r m in
    let h = rw (el, ek) at q in
    rw (ef, ea, eb) (record {
      answer = ap as_floats h.answer ∙ sym g.answer;
      irq = h.irq ∙ sym g.irq;
      doubt = h.doubt ∙ sym g.doubt;
      state = h.state ∙ sym g.state;
      ram = h.ram ∙ sym g.ram;
      marks = h.marks ∙ sym g.marks;
      holds = λ v. rw (floated (state_of xs) left right r m).state (h.holds v);
    })

-- ---- a run; n is the number of one of the same buffers without floats

module _ (xs r m : List ℕ) (cd out : List ℤ) (fs : List Float) {n : ℕ} (e : n ≡ tested_of xs (lent_tests (is_state xs) (state_of xs) (length r) (length m) (run_tests (length cd) (length out)))) where
  number_no : (n ≡ 0 → ⊥) → n ≡ number_in (run_floats cd out fs) xs (length r) (length m)
  unfolding number_in
  number_no z =
      tested_more xs _ _ e z
      (λ q. q ∙ sym (first_stays (lent_tests (is_state xs) (state_of xs) (length r) (length m) (run_tests (length cd) (length out))) (floats_tests (length fs) (length out)) (λ y. z (q ∙ y))))

  pub floats_no : (n ≡ 0 → ⊥) → Keeps (run_floats cd out fs) xs r m (ran_floats n 0 0 0 out fs) false false xs r m
  unfolding refused_of
  floats_no z = kept_refused (run_floats cd out fs) xs r m (number_no z) z

  module _ (z : n ≡ 0) where
    number_short : (length fs ≡ length out → ⊥) → 25 ≡ number_in (run_floats cd out fs) xs (length r) (length m)
    unfolding number_in
    number_short d = tested_on xs _ _ e z (λ q. here _ 25 _ (rw (ne_eqb (length fs) (length out) d)) ∙ sym (first_goes_on _ _ _ _ (sym q ∙ z)))

    pub floats_short : (length fs ≡ length out → ⊥) → Keeps (run_floats cd out fs) xs r m (ran_floats 25 0 0 0 out fs) false false xs r m
    unfolding refused_of
    floats_short d = kept_refused (run_floats cd out fs) xs r m (number_short d) no
      where
        no : ◌≡◌ {A = ℕ} 25 0 → ⊥
        no q = omega arith

    number_yes : length fs ≡ length out → 0 ≡ number_in (run_floats cd out fs) xs (length r) (length m)
    unfolding number_in
    number_yes d = tested_on xs _ _ e z (λ q. later _ 25 _ (rw (eq-eqb (length fs) (length out) d)) none ∙ sym (first_goes_on _ _ _ _ (sym q ∙ z)))

    pub floats_yes : {out' : List ℤ} {fs' : List Float} {i d : ℕ} {ys r' m' : List ℕ} → length fs ≡ length out → Runs (state_of xs) r m cd out i d ys r' m' out' → Halfwords ys → fs' ≡ map float_of out'
        → Keeps (run_floats cd out fs) xs r m (ran_floats n (length out / 2) i d out' fs') (reports i (length out / 2)) (reports d (length out / 2)) ys r' m'
    unfolding accepted_of
    floats_yes l q w ef =
        let k = number_yes l in
        rw (z, ef) (kept_leaves (run_floats cd out fs) xs r m k refl
        (rw (q.ram, q.marks, q.out, q.irq, q.doubt) (leaves_repeats (run_floats cd out fs) (state_of xs) r m (accepted_number (run_floats cd out fs) xs (length r) (length m) k refl) refl refl refl)) q.holds w)
