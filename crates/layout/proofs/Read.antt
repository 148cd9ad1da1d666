-- What the code reads out of a buffer, as the state that stands in it has it. Assumes nothing.
use mathlib.Core.Path.{◌≡◌, refl, sym, ap, ◌∙◌}
use mathlib.Core.Bool.{Bool, ◌&&◌}
use mathlib.Core.List.{List, []}
use Prim.Native.Nat.{ℕ, zero, suc, ◌+◌, ◌*◌, ◌-◌, ◌≤◌, ◌<◌}
use native.Mathlib.Omega.{arith}
use borrow.Author.Tests.{leb-true, le-leb, lt-leb, ne_eqb}
use lib.Dec.{eqb, leb}
use lib.IntN.{ℤ, pos}
use lib.ListN.{length, get_or, take, set}
use lib.Seq.{ext_get_or, take_all, take-suc-set}
use Rattle.std.specs.List.{between}
use Rattle.std.proofs.lemmas.List.Edits.{length-between, get_or-between}
use Rattle.fixed.specs.Signed.{signed}
use Rattle.envelope.specs.declared.Phase.{Phase}
use Rattle.envelope.specs.Adsr.{active}
use Rattle.envelope.specs.declared.Envelope.{Envelope}
use Rattle.soundram.specs.declared.ByteAddress.{ByteAddress}
use Rattle.voice.specs.declared.Source.{Source}
use Rattle.voice.specs.declared.Position.{Position}
use Rattle.voice.specs.declared.Playing.{Playing}
use Rattle.voice.specs.declared.Voice.{Voice}
use Rattle.voice.specs.Voice.{is_idle}
use Rattle.voices.specs.Voices.{past_end}
use Rattle.layout.specs.Layout.{list_of, region, registers_at, place, row_of, parts_of, wide, phase_of, voice_from, state_from, state_of, is_row, Formed}
use Rattle.layout.proofs.Laws.{list_length, list_at, list_same, region_at, place_high, row_at, voice_at_lem, form_row, first_of, skip}

-- ---- a list that a loop fills

module _ {A : Type 0} (f : ℕ → A) where
  pub filled_none : [] ≡ list_of f 0
  unfolding list_of
  filled_none = refl

  pub filled_more : (n : ℕ) (xs : List A) {x : A} → n < length xs → take n xs ≡ list_of f n → x ≡ f n → take (n + 1) (set xs n x) ≡ list_of f (n + 1)
  unfolding list_of
  filled_more n xs {x} h e g = let q : n + 1 ≡ suc n = omega arith in rw (q, take-suc-set xs n x h, e, g)

  pub filled_all : (n k : ℕ) {xs : List A} → length xs ≡ k → take n xs ≡ list_of f n → n ≤ k → k ≤ n → xs ≡ list_of f k
  filled_all n k {xs} l e h g = let q : n ≡ k = omega arith in sym (take_all n xs (omega arith)) ∙ e ∙ ap (list_of f) q

-- a part of a list that is copied
pub part_is : (xs : List ℕ) (base count : ℕ) {ys : List ℕ} → base + count ≤ length xs → ys ≡ between base (base + count) xs → ys ≡ list_of (λ k. get_or xs (base + k) 0) count
part_is xs base count {ys} h e =
    let f : ℕ → ℕ = λ k. get_or xs (base + k) 0 in
    let l : length ys ≡ count = ap length e ∙ length-between xs base (base + count) (omega arith) ∙ omega arith in
    ext_get_or 0 ys (list_of f count) (l ∙ sym (list_length f count))
    (λ k h. let i : k < count = omega arith in ap (λ (zs : List ℕ). get_or zs k 0) e ∙ get_or-between xs base (base + count) k 0 (omega arith) ∙ sym (list_at f count k 0 i))

-- ---- the head and the registers

module _ (xs : List ℕ) where
  pub size_is : {r : ℕ} → r ≡ wide (get_or xs 2 0) (get_or xs 3 0) → r ≡ (state_of xs).choices.size
  unfolding state_of state_from parts_of
  size_is e = rw (region_at 0 4 xs 2 (omega arith), region_at 0 4 xs 3 (omega arith)) e

  pub registers_are : {r : List ℕ} → r ≡ list_of (λ k. get_or xs (registers_at + k) 0) 256 → r ≡ (state_of xs).regs
  unfolding state_of state_from parts_of region
  registers_are e = e

-- ---- phases

idle_of : (p : ℕ) → eqb p 0 ≡ is_idle (phase_of p)
unfolding phase_of
idle_of zero = refl
idle_of (suc zero) = refl
idle_of (suc (suc zero)) = refl
idle_of (suc (suc (suc zero))) = refl
idle_of (suc (suc (suc (suc zero)))) = refl
idle_of (suc (suc (suc (suc (suc n))))) =
    let p : ℕ = suc (suc (suc (suc (suc n)))) in
    rw (ne_eqb p 0 (λ q. omega arith), ne_eqb p 1 (λ q. omega arith), ne_eqb p 2 (λ q. omega arith), ne_eqb p 3 (λ q. omega arith), ne_eqb p 4 (λ q. omega arith))

active_of : (p : ℕ) → (leb 1 p && leb p 4) ≡ active (phase_of p)
unfolding phase_of
active_of zero = refl
active_of (suc zero) = refl
active_of (suc (suc zero)) = refl
active_of (suc (suc (suc zero))) = refl
active_of (suc (suc (suc (suc zero)))) = refl
active_of (suc (suc (suc (suc (suc n))))) =
    let p : ℕ = suc (suc (suc (suc (suc n)))) in
    rw (ne_eqb p 0 (λ q. omega arith), ne_eqb p 1 (λ q. omega arith), ne_eqb p 2 (λ q. omega arith), ne_eqb p 3 (λ q. omega arith), ne_eqb p 4 (λ q. omega arith), le-leb 1 p (omega arith), lt-leb p 4 (omega arith))

-- ---- voice n

module _ (xs : List ℕ) (n : ℕ) (h : n < 24) where
  abbrev here : Voice
  here = get_or (state_of xs).voices n past_end

  pub phase_is : {p : Phase} → p ≡ phase_of (get_or xs (260 + n) 0) → p ≡ here.envelope.phase
  unfolding voice_from place
  phase_is e = rw (e, voice_at_lem xs n h, row_at xs n 0 (omega arith))

  pub idle_is : eqb (get_or xs (260 + n) 0) 0 ≡ is_idle here.envelope.phase
  idle_is = idle_of (get_or xs (260 + n) 0) ∙ ap is_idle (phase_is refl)

  pub active_is : (leb 1 (get_or xs (260 + n) 0) && leb (get_or xs (260 + n) 0) 4) ≡ active here.envelope.phase
  active_is = active_of (get_or xs (260 + n) 0) ∙ ap active (phase_is refl)

  pub wait_is : {w : ℕ} → w ≡ wide (get_or xs (308 + n * 2) 0) (get_or xs (308 + n * 2 + 1) 0) → w ≡ here.envelope.wait
  unfolding voice_from place
  wait_is e = let q : 308 + n * 2 + 0 ≡ 308 + n * 2 = omega arith in rw (e, voice_at_lem xs n h, row_at xs n 2 (omega arith), row_at xs n 3 (omega arith), q)

  pub envelope_is : {p : Phase} {l w : ℕ} → p ≡ here.envelope.phase → l ≡ here.envelope.level → w ≡ here.envelope.wait → record { phase = p; level = l; wait = w } ≡ here.envelope
  envelope_is e f g = rw (e, f, g)

  pub source_is : {a : ByteAddress} → a ≡ record { 0 = get_or xs (404 + n) 0 * 8 } → record { address = a; repeat = record { 0 = get_or xs (428 + n) 0 } } ≡ here.source
  unfolding voice_from place
  source_is e = rw (e, voice_at_lem xs n h, row_at xs n 6 (omega arith), row_at xs n 7 (omega arith))

  pub index_is : here.position.index ≡ get_or xs (380 + n) 0
  unfolding voice_from place
  index_is = rw (voice_at_lem xs n h, row_at xs n 5 (omega arith))

  pub index_byte : here.position.index ≤ 27 → get_or xs (380 + n) 0 ≤ 0xFF
  index_byte i = let e = index_is in omega arith

  pub position_is : {i : ℕ} → i ≡ get_or xs (380 + n) 0 → record { counter = get_or xs (356 + n) 0; index = i } ≡ here.position
  unfolding voice_from place
  position_is e = rw (e, voice_at_lem xs n h, row_at xs n 4 (omega arith), row_at xs n 5 (omega arith))

  pub level_is : get_or xs (284 + n) 0 ≡ here.envelope.level
  unfolding voice_from place
  level_is = rw (voice_at_lem xs n h, row_at xs n 1 (omega arith))

  pub loaded_is : eqb (get_or xs (452 + n) 0) 1 ≡ here.playing.loaded
  unfolding voice_from place
  loaded_is = rw (voice_at_lem xs n h, row_at xs n 8 (omega arith))

  samples_row : list_of (λ k. signed 16 (get_or xs (524 + n * 31 + k) 0)) 31 ≡ list_of (λ k. signed 16 (get_or (row_of xs n) (11 + k) 0)) 31
  samples_row =
      list_same (pos 0) (λ k. signed 16 (get_or (row_of xs n) (11 + k) 0)) (λ k. signed 16 (get_or xs (524 + n * 31 + k) 0)) 31
      (λ k l.
      let q : 524 + n * 31 + k ≡ 524 + n * 31 + (11 + k - 11) = omega arith in
      ap (signed 16) (rw (row_at xs n (11 + k) (omega arith), place_high n (11 + k) (omega arith), q)))

  pub flags_byte : Formed xs → get_or xs (476 + n) 0 ≤ 0xFF
  unfolding is_row place
  flags_byte e =
      let l : get_or (row_of xs n) 9 0 ≤ 0xFF = leb-true _ _ (first_of _ _ (skip _ _ (skip _ _ (form_row xs n e.form h)))) in
      rw (row_at xs n 9 (omega arith)) at l

  pub playing_is : {b : Bool} {f : ℕ} {s : List ℤ} → b ≡ here.playing.loaded → f ≡ get_or xs (476 + n) 0 → s ≡ list_of (λ k. signed 16 (get_or xs (524 + n * 31 + k) 0)) 31
      → record { loaded = b; flags = f; samples = s } ≡ here.playing
  unfolding voice_from place
  playing_is eb e f = rw (eb, e, f, samples_row, voice_at_lem xs n h, row_at xs n 9 (omega arith))

  pub sample_is : (k : ℕ) → k < 31 → {r : ℤ} → r ≡ signed 16 (get_or xs (524 + n * 31 + k) 0) → r ≡ get_or here.playing.samples k (pos 0)
  unfolding voice_from
  sample_is k l e = e ∙ sym (rw (voice_at_lem xs n h, ← samples_row) (list_at (λ k. signed 16 (get_or xs (524 + n * 31 + k) 0)) 31 k (pos 0) l))

  pub ended_is : eqb (get_or xs (500 + n) 0) 1 ≡ here.ended
  unfolding voice_from place
  ended_is = rw (voice_at_lem xs n h, row_at xs n 10 (omega arith))

  pub voice_is : {e : Envelope} {s : Source} {p : Position} {y : Playing} → e ≡ here.envelope → s ≡ here.source → p ≡ here.position → y ≡ here.playing
      → record { envelope = e; source = s; position = p; playing = y; ended = eqb (get_or xs (500 + n) 0) 1 } ≡ here
  voice_is e s p y = rw (e, s, p, y, ended_is)
