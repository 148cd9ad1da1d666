-- A state passes the tests of number 2 exactly when it is in range. Assumes nothing.
use mathlib.Core.Path.{◌≡◌, refl}
use mathlib.Core.Bool.{Bool, true, false, ◌||◌, not, false≢true}
use mathlib.Core.List.{List, [], ◌∷◌}
use Prim.Native.Nat.{ℕ, zero, suc, ◌≤◌, ◌<◌}
use native.Mathlib.Omega.{arith}
use lib.Dec.{eqb, leb}
use lib.ListN.{get_or}
use borrow.Author.Tests.{ltb-true, leb-true, eqb-true, lt-ltb, le-leb, eq-eqb}
use Rattle.fixed.proofs.Bools.{and_first, and_rest, all_at, all_true}
use Rattle.soundram.specs.Address.{Sized}
use Rattle.voice.specs.declared.Voice.{Voice}
use Rattle.voice.specs.Range as voice
use Rattle.voices.specs.Voices.{past_end, AllIn}
use Rattle.chip.specs.State.{State, all_of, size_ok, voice_ok, every_ok, base_of, state_ok}
use Rattle.chip.specs.Range.{Shaped, CaptureIn, PlaceIn, TransferIn, InRange}

-- ---- lists of tests

data All : List Bool → Type 0 where
  none : All []
  more : {a : Bool} {bs : List Bool} → a ≡ true → All bs → All (a ∷ bs)

-- the k-th of them
nth : {bs : List Bool} (k : ℕ) → All bs → get_or bs k true ≡ true
nth k none = refl
nth zero (more e f) = e
nth (suc k) (more e f) = nth k f

all_of_lem : {bs : List Bool} → All bs → all_of bs ≡ true
unfolding all_of
all_of_lem none = refl
all_of_lem (more e f) = rw e (all_of_lem f)

of_all : (bs : List Bool) → all_of bs ≡ true → All bs
unfolding all_of
of_all [] e = none
of_all (b ∷ bs) e = more (and_first b _ e) (of_all bs (and_rest b _ e))

-- at least 1, if active
runs : (a : Bool) (n : ℕ) → (not a || leb 1 n) ≡ true → a ≡ true → 1 ≤ n
runs true n e t = leb-true 1 n e
runs false n e t = absurd (false≢true t)

may_run : (a : Bool) (n : ℕ) → (a ≡ true → 1 ≤ n) → (not a || leb 1 n) ≡ true
may_run true n f = le-leb 1 n (f refl)
may_run false n f = refl

-- ---- L

pub sized : (size : ℕ) → size_ok size ≡ true → Sized size
unfolding size_ok
sized size e = by (eqb size 0x10000) (eqb size 0x80000) refl refl e
  where
    by : (x y : Bool) → eqb size 0x10000 ≡ x → eqb size 0x80000 ≡ y → (x || y) ≡ true → Sized size
    by true y p q e = let h = eqb-true size 0x10000 p in record { least = omega arith; most = omega arith; sixteens = omega arith }
    by false true p q e = let h = eqb-true size 0x80000 q in record { least = omega arith; most = omega arith; sixteens = omega arith }
    by false false p q e = absurd (false≢true e)

-- ---- voices

voice_in_lem : (size : ℕ) (v : Voice) → voice_ok size v ≡ true → voice.InRange size v
unfolding voice_ok
voice_in_lem size v o =
    let a = of_all _ o in
    record {
      envelope = record { level = leb-true _ _ (nth 0 a); wait = leb-true _ _ (nth 1 a); runs = λ t. runs _ _ (nth 2 a) t };
      counter = ltb-true _ _ (nth 3 a);
      index = leb-true _ _ (nth 4 a);
      multiple = eqb-true _ _ (nth 5 a);
      below = ltb-true _ _ (nth 6 a);
    }

voice_ok_lem : (size : ℕ) (v : Voice) → voice.InRange size v → voice_ok size v ≡ true
unfolding voice_ok
voice_ok_lem size v r =
    all_of_lem (more (le-leb _ _ r.envelope.level) (more (le-leb _ _ r.envelope.wait) (more (may_run _ _ r.envelope.runs) (more (lt-ltb _ _ r.counter)
    (more (le-leb _ _ r.index) (more (eq-eqb _ _ r.multiple) (more (lt-ltb _ _ r.below) none)))))))

every_at : (size : ℕ) (vs : List Voice) (n k : ℕ) → every_ok size vs n ≡ true → k < n → voice.InRange size (get_or vs k past_end)
every_at size vs n k e h = voice_in_lem size _ (all_at (λ i. voice_ok size (get_or vs i past_end)) n k e h)

at_every : (size : ℕ) (vs : List Voice) (n : ℕ) → ((k : ℕ) → k < n → voice.InRange size (get_or vs k past_end)) → every_ok size vs n ≡ true
at_every size vs n f = all_true (λ k. voice_ok size (get_or vs k past_end)) n (λ k h. voice_ok_lem size _ (f k h))

-- ---- the state

module _ (s : State) (o : state_ok s ≡ true) where
  pub ok_sized : Sized s.choices.size
  unfolding state_ok
  ok_sized = sized _ (nth 0 (of_all _ o))

  pub ok_voices : AllIn s.choices.size s.voices
  unfolding state_ok
  ok_voices = record { each = λ k h. every_at _ s.voices 24 k (nth 1 (of_all _ o)) h }

  pub ok_capture : CaptureIn s.capture
  unfolding state_ok
  ok_capture = let a = of_all _ o in record { even = eqb-true _ _ (nth 2 a); below = ltb-true _ _ (nth 3 a) }

  pub ok_place : PlaceIn s.choices.size (base_of s).0 s.reverb.place.0
  unfolding state_ok
  ok_place = let a = of_all _ o in record { even = eqb-true _ _ (nth 4 a); least = leb-true _ _ (nth 5 a); most = leb-true _ _ (nth 6 a) }

  pub ok_transfer : TransferIn s.choices.size s.transfer
  unfolding state_ok
  ok_transfer = let a = of_all _ o in record { even = eqb-true _ _ (nth 7 a); below = ltb-true _ _ (nth 8 a) }

  pub in_range : Shaped s → InRange s
  unfolding state_ok
  in_range n =
      let a = of_all _ o in
      record {
        shaped = n;
        size = nth 0 a;
        voices = ok_voices;
        capture = ok_capture;
        place = ok_place;
        transfer = ok_transfer;
        noise = record { timer = leb-true _ _ (nth 9 a) };
      }

pub passes : (s : State) → InRange s → state_ok s ≡ true
unfolding state_ok
passes s r =
    all_of_lem (more r.size (more (at_every _ s.voices 24 r.voices.each) (more (eq-eqb _ _ r.capture.even) (more (lt-ltb _ _ r.capture.below)
    (more (eq-eqb _ _ r.place.even) (more (le-leb _ _ r.place.least) (more (le-leb _ _ r.place.most) (more (eq-eqb _ _ r.transfer.even)
    (more (lt-ltb _ _ r.transfer.below) (more (le-leb _ _ r.noise.timer) none))))))))))
