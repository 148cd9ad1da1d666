-- Demand 3 of the calls on a state in a lent buffer. Assumes nothing.
use mathlib.Core.Path.{◌≡◌, refl, sym, ap, ap₂, ◌∙◌}
use mathlib.Core.Bool.{Bool, true, false, cond, ◌&&◌, false≢true}
use mathlib.Core.List.{List, [], ◌∷◌, map}
use Prim.Native.Nat.{ℕ, zero, suc}
use native.Mathlib.Omega.{arith}
use borrow.Author.Tests.{ne_eqb}
use lib.ListN.{length}
use lib.Dec.{eqb}
use Rattle.soundram.specs.Memory.{marked}
use Rattle.soundram.specs.Program.{any_unmarked}
use Rattle.soundram.specs.TwoRuns.{AgreeAt}
use Rattle.soundram.specs.Calls.{Outcome, outcome, still, log, Indistinct, both_end, both_sure, both_doubt}
use Rattle.chip.specs.State.{State}
use Rattle.layout.specs.Layout.{state_of, buffer_of, is_well_formed}
use Rattle.spu.specs.Step.{Call, Answer, number_of, refused_of, accepted_of, step_of, chip, outcome_of}
use Rattle.spu.proofs.Demand as spu
use Rattle.calls.specs.Kept.{number_in, kept_not, kept_of, Keeps}
use Rattle.calls.specs.Lists.{Gave, none, next, doubt_in, standing}
use Rattle.calls.proofs.Kept.{form_number, accepted_state, state_formed}

-- ---- of a buffer in which a state stands: the log of the calls on that state

module _ (c : Call) (b r m : List ℕ) where
  abbrev o : Outcome Answer State
  o = outcome_of c (state_of b) r m

  formed_kept : is_well_formed b ≡ true → kept_of c b r m ≡ record {
    answer = o.answer;
    irq = o.irq;
    doubt = o.doubt;
    state = cond (eqb (number_in c b (length r) (length m)) 0) (buffer_of o.state) b;
    ram = o.ram;
    marks = o.marks;
    accesses = o.accesses;
  }
  unfolding kept_of outcome_of step_of outcome
  formed_kept v = rw (form_number c b (length r) (length m) v) (by (number_of c (state_of b) (length r) (length m)))
    where
      by : (n : ℕ)
          → (let x = outcome chip (cond (eqb n 0) (accepted_of c (state_of b)) (still (refused_of c n) (state_of b))) (state_of b) r m in
          cond {A = Outcome Answer (List ℕ)} (eqb n 0)
          (record { answer = x.answer; irq = x.irq; doubt = x.doubt; state = buffer_of x.state; ram = x.ram; marks = x.marks; accesses = x.accesses }) (kept_not c n b r m)
          ≡ record { answer = x.answer; irq = x.irq; doubt = x.doubt; state = cond (eqb n 0) (buffer_of x.state) b; ram = x.ram; marks = x.marks; accesses = x.accesses })
      by zero = refl
      by (suc n) = rw (ne_eqb (suc n) 0 (λ e. absurd (omega arith)))

module _ {c : Call} {b r m b' r' m' : List ℕ} {a : Answer} {i d : Bool} (k : Keeps c b r m a i d b' r' m') where
  abbrev entry : Outcome Answer (List ℕ)
  entry = record { answer = a; irq = i; doubt = d; state = b'; ram = r'; marks = m'; accesses = (kept_of c b r m).accesses }

  is_outcome : is_well_formed b ≡ true → standing entry ≡ outcome_of c (state_of b) r m
  is_outcome v =
      let q = formed_kept c b r m v in
      rw (k.answer, k.irq, k.doubt, k.ram, k.marks, (k.holds v).state, q)

-- what the calls gave, with the state that stands in the buffer after each, is the log of the calls on the state that stood in it
pub is_log : (cs : List Call) {b r m : List ℕ} {os : List (Outcome Answer (List ℕ))} → Gave cs b r m os → is_well_formed b ≡ true → map standing os ≡ log chip cs (state_of b) r m
unfolding log outcome_of
is_log [] none v = refl
is_log (c ∷ cs) (next k g) v =
    let q = is_outcome k v in
    ap₂ ◌∷◌ q (is_log cs g (k.holds v).formed.form ∙ ap (λ (o : Outcome Answer State). log chip cs o.state o.ram o.marks) q)

-- the calls of two runs, of the same buffer and marks
module _ {c : Call} {b r t m : List ℕ} {b₁ r₁ m₁ b₂ r₂ m₂ : List ℕ} {a₁ a₂ : Answer} {i₁ i₂ d₁ d₂ : Bool} (k : Keeps c b r m a₁ i₁ d₁ b₁ r₁ m₁) (l : Keeps c b t m a₂ i₂ d₂ b₂ r₂ m₂) (len : length r ≡ length t) where
  -- the buffer is the same after both if the states are
  same_buffer : is_well_formed b ≡ true → state_of b₁ ≡ state_of b₂ → b₁ ≡ b₂
  same_buffer v e =
      let p = k.state ∙ ap (λ (o : Outcome Answer (List ℕ)). o.state) (formed_kept c b r m v) in
      let q = l.state ∙ ap (λ (o : Outcome Answer (List ℕ)). o.state) (formed_kept c b t m v) in
      let s = sym (k.holds v).state ∙ e ∙ (l.holds v).state in
      p ∙ rw (len, s) (sym q)

-- what cannot be told apart in the logs of the states cannot in what the calls gave
lifted : {cs : List Call} {b r t m : List ℕ} {os ps : List (Outcome Answer (List ℕ))} → Gave cs b r m os → Gave cs b t m ps → is_well_formed b ≡ true → length r ≡ length t
    → Indistinct (map standing os) (map standing ps) → Indistinct os ps
lifted none none v len both_end = both_end
lifted (next k g) (next l h) v len (both_doubt x y) = both_doubt (record { report = x.report; met = x.met }) (record { report = y.report; met = y.met })
lifted (next k g) (next l h) v len (both_sure x y z n) =
    let e = same_buffer k l len v z.state in
    both_sure (record { report = x.report; met = x.met }) (record { report = y.report; met = y.met })
    (record { answer = z.answer; irq = z.irq; state = e; marks = z.marks; len = z.len; ram = z.ram })
    (lifted g (rw (← e, ← z.marks) at h) (k.holds v).formed.form z.len n)

-- ---- of any other buffer

-- the refusal of a call
abbrev refusal : List ℕ → List ℕ → List ℕ → Call → Outcome Answer (List ℕ)
refusal b r m c = kept_not c (number_in c b (length r) (length m)) b r m

other_kept : (c : Call) (b r m : List ℕ) → is_well_formed b ≡ false → kept_of c b r m ≡ refusal b r m c
unfolding kept_of
other_kept c b r m v = rw (ne_eqb (number_in c b (length r) (length m)) 0 (λ z. false≢true (sym v ∙ state_formed b (accepted_state c b (length r) (length m) refl z))))

is_refusal : {c : Call} {b r m b' r' m' : List ℕ} {a : Answer} {i d : Bool} (k : Keeps c b r m a i d b' r' m') → is_well_formed b ≡ false → entry k ≡ refusal b r m c
is_refusal {c} {b} {r} {m} k v = rw (k.answer, k.irq, k.doubt, k.state, k.ram, k.marks, other_kept c b r m v)

-- each call is refused, and leaves it
pub all_refused : (cs : List Call) {b r m : List ℕ} {os : List (Outcome Answer (List ℕ))} → Gave cs b r m os → is_well_formed b ≡ false → os ≡ map (refusal b r m) cs
all_refused [] none v = refl
all_refused (c ∷ cs) (next k g) v =
    let q = is_refusal k v in
    ap₂ ◌∷◌ q (all_refused cs g (ap (λ (o : Outcome Answer (List ℕ)). is_well_formed o.state) q ∙ v) ∙ ap (λ (o : Outcome Answer (List ℕ)). map (refusal o.state o.ram o.marks) cs) q)

refused_alike : (cs : List Call) (b r t m : List ℕ) → length r ≡ length t → ((h : ℕ) → marked m h ≡ true → AgreeAt r t h) → Indistinct (map (refusal b r m) cs) (map (refusal b t m) cs)
unfolding any_unmarked
refused_alike [] b r t m len agree = both_end
refused_alike (c ∷ cs) b r t m len agree =
    both_sure (record { report = refl; met = refl }) (record { report = refl; met = refl })
    (record { answer = ap (λ (k : ℕ). refused_of c (number_in c b k (length m))) len; irq = refl; state = refl; marks = refl; len = len; ram = agree }) (refused_alike cs b r t m len agree)

-- ---- DEMAND 3

-- "For every list of calls, two runs from the same state and marks, whose RAMs agree on loaded halfwords, give equal answers up to the first
-- report of doubt, and that comes in both at the same call, exactly when a counted read first meets a halfword that nobody loaded.": of calls
-- on any buffer in which no doubt stands; the buffer after each call is the same in both, too
pub demand_3 : (cs : List Call) (b r t m : List ℕ) {os ps : List (Outcome Answer (List ℕ))} → Gave cs b r m os → Gave cs b t m ps → doubt_in b ≡ false → length r ≡ length t
    → ((h : ℕ) → marked m h ≡ true → AgreeAt r t h) → Indistinct os ps
demand_3 cs b r t m {os} {ps} g h clear len agree = by (is_well_formed b) refl clear
  where
    by : (v : Bool) → is_well_formed b ≡ v → (v && (state_of b).control.doubt) ≡ false → Indistinct os ps
    by true v d = lifted g h v len (rw (is_log cs g v, is_log cs h v) (spu.demand_3 cs (state_of b) r t m d len agree))
    by false v d = rw (all_refused cs g v, all_refused cs h v) (refused_alike cs b r t m len agree)
