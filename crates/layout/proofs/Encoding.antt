-- A state has one buffer: what stands in a buffer says every halfword of it. Assumes nothing.
use mathlib.Core.Path.{◌≡◌, refl, sym, ap, ◌∙◌}
use mathlib.Core.Bool.{Bool, true, false}
use mathlib.Core.List.{List, [], ◌∷◌, ◌++◌}
use Prim.Native.Nat.{ℕ, zero, suc, ◌+◌, ◌-◌, ◌*◌, ◌/◌, ◌%◌, ◌≤◌, ◌<◌}
use native.Mathlib.Omega.{arith}
use borrow.Author.Tests.{ltb-true, ltb-false, eqb-true, leb-true}
use lib.Dec.{ltb}
use lib.ListN.{get_or, get_or-eq_default}
use lib.IntN.{pos}
use lib.Seq.{ext_get_or}
use Rattle.fixed.specs.Signed.{signed, bits_of}
use Rattle.fixed.proofs.TwosComplement.{bits_signed}
use Rattle.chip.specs.State.{State}
use Rattle.layout.specs.Layout.{list_of, region, arrays_at, tail_at, tail_length, place, row_of, parts_of, wide, flag, phase_of, phase_number, flag_word, low_half, high_half, voice_from, state_from, state_of, is_tagged, is_row, is_tail, is_well_formed, Holds, Halfwords, words_of, word_in, head_of, tail_of, halfword_at, buffer_of, state_length}
use Rattle.layout.proofs.Laws.{list_length, list_at, list_same, region_at, place_low, place_wait, place_next, place_high, row_at, voice_at_lem, register_at_lem, tagged_length, form_tagged, form_row, form_tail, first_of, skip}

-- ---- numbers

low_back : (a b : ℕ) → a < 0x10000 → low_half (wide a b) ≡ a
low_back a b h = omega arith

high_back : (a b : ℕ) → a < 0x10000 → high_half (wide a b) ≡ b
high_back a b h = omega arith

half_low : (a b : ℕ) → a < 0x10000 → low_half (wide a b * 2 / 2) ≡ a
half_low a b h = omega arith

half_high : (a b : ℕ) → a < 0x10000 → high_half (wide a b * 2 / 2) ≡ b
half_high a b h = omega arith

twice_half : (a : ℕ) → a * 2 / 2 ≡ a
twice_half a = omega arith

eight_back : (a : ℕ) → a * 8 / 8 ≡ a
eight_back a = omega arith

flag_there : (x : ℕ) → x ≤ 1 → flag_word (flag x) ≡ x
flag_there zero h = refl
flag_there (suc zero) h = refl
flag_there (suc (suc x)) h = absurd (no h)
  where
    no : suc (suc x) ≤ 1 → ⊥
    no h = omega arith

phase_there : (n : ℕ) → n ≤ 5 → phase_number (phase_of n) ≡ n
unfolding phase_of
phase_there zero h = refl
phase_there (suc zero) h = refl
phase_there (suc (suc zero)) h = refl
phase_there (suc (suc (suc zero))) h = refl
phase_there (suc (suc (suc (suc zero)))) h = refl
phase_there (suc (suc (suc (suc (suc zero))))) h = refl
phase_there (suc (suc (suc (suc (suc (suc n)))))) h = absurd (no h)
  where
    no : suc (suc (suc (suc (suc (suc n))))) ≤ 5 → ⊥
    no h = omega arith

-- ---- a voice's words

samples_there : (g : ℕ → ℕ) → ((k : ℕ) → g k < 0x10000) → list_of (λ k. bits_of 16 (get_or (list_of (λ j. signed 16 (g j)) 31) k (pos 0))) 31 ≡ list_of g 31
samples_there g h =
    list_same 0 g (λ k. bits_of 16 (get_or (list_of (λ j. signed 16 (g j)) 31) k (pos 0))) 31
    (λ k l. ap (bits_of 16) (list_at (λ j. signed 16 (g j)) 31 k (pos 0) l) ∙ bits_signed 16 (g k) (h k))

-- the words of the voice that words are, from a test of these
record Row (ws : List ℕ) : Type 0 where
  phase : get_or ws 0 0 ≤ 5
  loaded : get_or ws 8 0 ≤ 1
  ended : get_or ws 10 0 ≤ 1

row_of_lem : (ws : List ℕ) → is_row ws ≡ true → Row ws
unfolding is_row
row_of_lem ws e =
    record {
      phase = leb-true _ _ (first_of _ _ e);
      loaded = leb-true _ _ (first_of _ _ (skip _ _ e));
      ended = leb-true _ _ (first_of _ _ (skip _ _ (skip _ _ (skip _ _ e))));
    }

words_there : (ws : List ℕ) → Row ws → ((i : ℕ) → get_or ws i 0 < 0x10000)
    → words_of (voice_from ws)
    ≡ (get_or ws 0 0 ∷ get_or ws 1 0 ∷ get_or ws 2 0 ∷ get_or ws 3 0 ∷ get_or ws 4 0 ∷ get_or ws 5 0 ∷ get_or ws 6 0 ∷ get_or ws 7 0 ∷ get_or ws 8 0 ∷ get_or ws 9 0 ∷ get_or ws 10 0 ∷ [])
    ++ list_of (λ k. get_or ws (11 + k) 0) 31
unfolding words_of voice_from
words_there ws r h =
    rw (
      phase_there (get_or ws 0 0) r.phase,
      low_back (get_or ws 2 0) (get_or ws 3 0) (h 2),
      high_back (get_or ws 2 0) (get_or ws 3 0) (h 2),
      eight_back (get_or ws 6 0),
      flag_there (get_or ws 8 0) r.loaded,
      flag_there (get_or ws 10 0) r.ended,
      samples_there (λ k. get_or ws (11 + k) 0) (λ k. h (11 + k)),
    )

-- ---- what follows the voices

tail_back : (ts : List ℕ) → is_tail ts ≡ true → ((i : ℕ) → i < 16 → get_or ts i 0 < 0x10000) → ts ≡ list_of (λ k. get_or ts k 0) 16
    → (get_or ts 0 0
    ∷ low_half (wide (get_or ts 1 0) (get_or ts 2 0))
    ∷ high_half (wide (get_or ts 1 0) (get_or ts 2 0))
    ∷ get_or ts 3 0
    ∷ flag_word (flag (get_or ts 4 0))
    ∷ flag_word (flag (get_or ts 5 0))
    ∷ get_or ts 6 0 * 2 / 2
    ∷ low_half (wide (get_or ts 7 0) (get_or ts 8 0) * 2 / 2)
    ∷ high_half (wide (get_or ts 7 0) (get_or ts 8 0) * 2 / 2)
    ∷ flag_word (flag (get_or ts 9 0))
    ∷ bits_of 16 (signed 16 (get_or ts 10 0))
    ∷ bits_of 16 (signed 16 (get_or ts 11 0))
    ∷ low_half (wide (get_or ts 12 0) (get_or ts 13 0))
    ∷ high_half (wide (get_or ts 12 0) (get_or ts 13 0))
    ∷ low_half (wide (get_or ts 14 0) (get_or ts 15 0) * 2 / 2)
    ∷ high_half (wide (get_or ts 14 0) (get_or ts 15 0) * 2 / 2)
    ∷ [])
    ≡ ts
unfolding is_tail list_of
tail_back ts t h q =
    rw (
      low_back (get_or ts 1 0) (get_or ts 2 0) (h 1 (omega arith)),
      high_back (get_or ts 1 0) (get_or ts 2 0) (h 1 (omega arith)),
      flag_there (get_or ts 4 0) (leb-true _ _ (first_of _ _ t)),
      flag_there (get_or ts 5 0) (leb-true _ _ (first_of _ _ (skip _ _ t))),
      twice_half (get_or ts 6 0),
      half_low (get_or ts 7 0) (get_or ts 8 0) (h 7 (omega arith)),
      half_high (get_or ts 7 0) (get_or ts 8 0) (h 7 (omega arith)),
      flag_there (get_or ts 9 0) (leb-true _ _ (first_of _ _ (skip _ _ (skip _ _ t)))),
      bits_signed 16 (get_or ts 10 0) (h 10 (omega arith)),
      bits_signed 16 (get_or ts 11 0) (h 11 (omega arith)),
      low_back (get_or ts 12 0) (get_or ts 13 0) (h 12 (omega arith)),
      high_back (get_or ts 12 0) (get_or ts 13 0) (h 12 (omega arith)),
      half_low (get_or ts 14 0) (get_or ts 15 0) (h 14 (omega arith)),
      half_high (get_or ts 14 0) (get_or ts 15 0) (h 14 (omega arith)),
    )
    (sym q)

-- ---- a whole buffer

module _ (xs : List ℕ) (f : is_well_formed xs ≡ true) (b : Halfwords xs) where
  row_below : (n i : ℕ) → get_or (row_of xs n) i 0 < 0x10000
  unfolding row_of
  row_below n i = by (ltb i 42) refl
    where
      by : (t : Bool) → ltb i 42 ≡ t → get_or (list_of (λ w. get_or xs (place n w) 0) 42) i 0 < 0x10000
      by true e = rw (list_at (λ w. get_or xs (place n w) 0) 42 i 0 (ltb-true i 42 e)) (b.each (place n i))
      by false e =
          let l = list_length (λ w. get_or xs (place n w) 0) 42 in
          let h = ltb-false i 42 e in
          rw (get_or-eq_default (list_of (λ w. get_or xs (place n w) 0) 42) 0 {n = i} (omega arith)) (omega arith)

  row_there : (n w : ℕ) → n < 24 → w < 42 → word_in (state_of xs) n w ≡ get_or xs (place n w) 0
  unfolding row_of list_of
  row_there n w h k =
      let r = words_there (row_of xs n) (row_of_lem (row_of xs n) (form_row xs n f h)) (row_below n) in
      ap (λ (v : _). get_or (words_of v) w 0) (voice_at_lem xs n h) ∙ ap (λ (l : List ℕ). get_or l w 0) r ∙ row_at xs n w k

  -- ---- the head and the tail

  head_there : (i : ℕ) → i < 4 → get_or (head_of (state_of xs)) i 0 ≡ get_or xs i 0
  unfolding head_of state_of state_from parts_of is_tagged
  head_there zero h = sym (eqb-true _ _ (first_of _ _ (skip _ _ (form_tagged xs f))))
  head_there (suc zero) h = sym (eqb-true _ _ (first_of _ _ (skip _ _ (skip _ _ (form_tagged xs f)))))
  head_there (suc (suc zero)) h = rw (region_at 0 4 xs 2 (omega arith), region_at 0 4 xs 3 (omega arith)) (low_back (get_or xs 2 0) (get_or xs 3 0) (b.each 2))
  head_there (suc (suc (suc zero))) h = rw (region_at 0 4 xs 2 (omega arith), region_at 0 4 xs 3 (omega arith)) (high_back (get_or xs 2 0) (get_or xs 3 0) (b.each 2))
  head_there (suc (suc (suc (suc i)))) h = absurd (no h)
    where
      no : suc (suc (suc (suc i))) < 4 → ⊥
      no h = omega arith

  tail_at_lem : (i : ℕ) → i < 16 → get_or (parts_of xs).tail i 0 ≡ get_or xs (tail_at + i) 0
  unfolding parts_of
  tail_at_lem i h = region_at tail_at tail_length xs i h

  tail_flat : (parts_of xs).tail ≡ list_of (λ k. get_or (parts_of xs).tail k 0) 16
  unfolding parts_of region
  tail_flat =
      sym (list_same 0 (λ k. get_or xs (tail_at + k) 0) (λ k. get_or (list_of (λ j. get_or xs (tail_at + j) 0) 16) k 0) 16 (λ k h. list_at (λ j. get_or xs (tail_at + j) 0) 16 k 0 h))

  tail_there : tail_of (state_of xs) ≡ (parts_of xs).tail
  unfolding tail_of state_of state_from
  tail_there = tail_back (parts_of xs).tail (form_tail xs f) (λ i h. rw (tail_at_lem i h) (b.each (tail_at + i))) tail_flat

  -- ---- every halfword

  abbrev s : State
  s = state_of xs

  array_there : (i w : ℕ) → (i - arrays_at) / 24 ≡ w → place ((i - arrays_at) % 24) w ≡ i → w < 42 → word_in s ((i - arrays_at) % 24) ((i - arrays_at) / 24) ≡ get_or xs i 0
  array_there i w e p h = rw e (row_there ((i - arrays_at) % 24) w (omega arith) h ∙ ap (λ (k : ℕ). get_or xs k 0) p)

  halfword_there : (i : ℕ) → i < state_length → halfword_at s i ≡ get_or xs i 0
  unfolding halfword_at
  halfword_there i h = by (ltb i 4) (ltb i 260) (ltb i 308) (ltb i 356) (ltb i 524) (ltb i 1268) refl refl refl refl refl refl
    where
      by : (a c d e g k : Bool) → ltb i 4 ≡ a → ltb i 260 ≡ c → ltb i 308 ≡ d → ltb i 356 ≡ e → ltb i 524 ≡ g → ltb i 1268 ≡ k → halfword_at s i ≡ get_or xs i 0
      by true c d e g k p q r t u v = let l = ltb-true i 4 p in rw p (head_there i l)
      by false true d e g k p q r t u v =
          let l = ltb-false i 4 p in
          let m = ltb-true i 260 q in
          let z : 4 + (i - 4) ≡ i = omega arith in
          rw (p, q) (register_at_lem xs (i - 4) (omega arith) ∙ ap (λ (j : ℕ). get_or xs j 0) z)
      by false false true e g k p q r t u v =
          let l = ltb-false i 260 q in
          let m = ltb-true i 308 r in
          rw (p, q, r) (array_there i ((i - 260) / 24) refl (place_low ((i - 260) % 24) ((i - 260) / 24) (omega arith) ∙ omega arith) (omega arith))
      by false false false true g k p q r t u v =
          let l = ltb-false i 308 r in
          let m = ltb-true i 356 t in
          rw (p, q, r, t)
          (row_there ((i - 308) / 2) (2 + (i - 308) % 2) (omega arith) (omega arith)
          ∙ ap (λ (j : ℕ). get_or xs j 0) (place_wait ((i - 308) / 2) (2 + (i - 308) % 2) (omega arith) (omega arith) ∙ omega arith))
      by false false false false true k p q r t u v =
          let l = ltb-false i 356 t in
          let m = ltb-true i 524 u in
          rw (p, q, r, t, u) (array_there i ((i - 260) / 24) refl (place_next ((i - 260) % 24) ((i - 260) / 24) (omega arith) (omega arith) ∙ omega arith) (omega arith))
      by false false false false false true p q r t u v =
          let l = ltb-false i 524 u in
          let m = ltb-true i 1268 v in
          rw (p, q, r, t, u, v)
          (row_there ((i - 524) / 31) (11 + (i - 524) % 31) (omega arith) (omega arith)
          ∙ ap (λ (j : ℕ). get_or xs j 0) (place_high ((i - 524) / 31) (11 + (i - 524) % 31) (omega arith) ∙ omega arith))
      by false false false false false false p q r t u v =
          let l = ltb-false i 1268 v in
          let z : tail_at + (i - tail_at) ≡ i = omega arith in
          rw (p, q, r, t, u, v, tail_there) (tail_at_lem (i - tail_at) (omega arith) ∙ ap (λ (j : ℕ). get_or xs j 0) z)

  pub one_buffer : xs ≡ buffer_of (state_of xs)
  unfolding buffer_of
  one_buffer =
      let l = tagged_length xs (form_tagged xs f) in
      ext_get_or 0 xs (list_of (halfword_at s) state_length) (l ∙ sym (list_length (halfword_at s) state_length))
      (λ i h. let k : i < state_length = omega arith in sym (list_at (halfword_at s) state_length i 0 k ∙ halfword_there i k))

-- the buffer that holds a state
pub holds_buffer : {xs : List ℕ} {s : State} → Holds xs s → Halfwords xs → xs ≡ buffer_of s
holds_buffer {xs} h b = one_buffer xs h.formed.form b ∙ ap buffer_of h.state
