-- The tests of a state, as the code makes them: the voices array by array, and the rest. Assumes nothing.
use mathlib.Core.Path.{◌≡◌, refl, sym, ap, ◌∙◌}
use mathlib.Core.Bool.{Bool, true, false, not, ◌&&◌, ◌||◌, and_assoc, and_comm, and-true, and-false}
use mathlib.Core.List.{List, [], ◌∷◌, ◌++◌}
use Prim.Native.Nat.{ℕ, zero, suc, ◌+◌, ◌-◌, ◌*◌, ◌/◌, ◌%◌, ◌≤◌, ◌<◌}
use native.Mathlib.Omega.{arith}
use mathlib.Core.Logic.{◌⊎◌, inl, inr}
use borrow.Author.Tests.{leb-true, le-leb, eq-eqb, ne_eqb, eqb-true}
use lib.Bits.{bit_and, and_mask}
use lib.Dec.{leb, ltb, eqb}
use lib.ListN.{length, get_or}
use Rattle.std.specs.Array.{IsWholeChunk}
use Rattle.fixed.specs.Tests.{all_below}
use Rattle.fixed.proofs.Bools.{all_and}
use Rattle.envelope.specs.declared.Envelope.{Envelope}
use Rattle.envelope.specs.Adsr.{active}
use Rattle.noise.specs.declared.Noise.{Noise}
use Rattle.soundram.specs.Address.{address_of}
use Rattle.chip.specs.State.{all_of, size_ok, voice_ok, every_ok, base_of, state_ok}
use Rattle.chip.proofs.Tests.{sized}
use Rattle.layout.specs.Layout.{list_of, every, row_of, parts_of, place, wide, phase_of, voice_from, state_of, voice_in, is_tagged, is_row, is_tail, are_parts, is_well_formed, is_state, state_length, tag, version}
use Rattle.layout.proofs.Laws.{row_at, voice_at_lem}
use Rattle.layout.proofs.Read.{phase_is}
use Rattle.layout.proofs.Tail.{tail_at_lem, noise_is, capture_at_lem, place_at, transfer_at, register_is}
use Rattle.range_check.specs.Voices.{wait_ok, fields_ok}

-- ---- tests that come to the same

same : (a b : Bool) → (a ≡ true → b ≡ true) → (b ≡ true → a ≡ true) → a ≡ b
same true b f g = sym (f refl)
same false true f g = g refl
same false false f g = refl

same_test : (a b c d : ℕ) → (a ≤ b → c ≤ d) → (c ≤ d → a ≤ b) → leb a b ≡ leb c d
same_test a b c d f g = same _ _ (λ e. le-leb c d (f (leb-true a b e))) (λ e. le-leb a b (g (leb-true c d e)))

swap : (a b c : Bool) → (a && (b && c)) ≡ (b && (a && c))
swap true b c = refl
swap false b c = sym (and-false b)

-- ---- L and its last unit

sizes : (size : ℕ) → size_ok size ≡ true → (size ≡ 0x10000) ⊎ (size ≡ 0x80000)
unfolding size_ok
sizes size e = by (eqb size 0x10000) refl e
  where
    by : (b : Bool) → eqb size 0x10000 ≡ b → (b || eqb size 0x80000) ≡ true → (size ≡ 0x10000) ⊎ (size ≡ 0x80000)
    by true p e = inl (eqb-true size 0x10000 p)
    by false p e = inr (eqb-true size 0x80000 e)

-- a unit's number, as far as L goes, is the rest of its bits
pub unit_within : (last unit : ℕ) → unit < 0x10000 → size_ok ((last + 1) * 8) ≡ true → bit_and unit last * 4 * 2 ≡ (address_of ((last + 1) * 8) (record { 0 = unit })).0
unfolding address_of
unit_within last unit h e = by (sizes ((last + 1) * 8) e)
  where
    by : ((last + 1) * 8 ≡ 0x10000) ⊎ ((last + 1) * 8 ≡ 0x80000) → bit_and unit last * 4 * 2 ≡ unit * 8 % ((last + 1) * 8)
    by (inl p) = let q : last ≡ 0x1FFF = omega arith in let m = and_mask unit 13 in rw q (omega arith)
    by (inr p) = let q : last ≡ 0xFFFF = omega arith in let m = and_mask unit 16 in rw q (omega arith)

-- ---- array by array is voice by voice

-- the tests of one voice, in the code's order and in the definitions'
grouped : (p v w a c i u l f e : Bool)
    → ((p && (v && (c && (i && (u && (l && (f && e))))))) && (w && a))
    ≡ ((p && (l && (f && (e && true)))) && (v && (w && (a && (c && (i && (true && (u && true))))))))
grouped p v w a c i u l f e = simp (and_assoc, and_comm, swap, and-true)

all_same : (f g : ℕ → Bool) (n : ℕ) → ((k : ℕ) → k < n → f k ≡ g k) → all_below n f ≡ all_below n g
unfolding all_below
all_same f g zero e = refl
all_same f g (suc n) e = rw (all_same f g n (λ k h. e k (omega arith)), e n (omega arith))

and_all : (f g : ℕ → Bool) (n : ℕ) {a b : Bool} → a ≡ all_below n f → b ≡ all_below n g → (a && b) ≡ all_below n (λ k. f k && g k)
and_all f g n e h = rw (e, h) (sym (all_and f g n))

every_last : {A : Type 0} (t : A → Bool) (xs : List A) (x : A) → every t (xs ++ x ∷ []) ≡ (every t xs && t x)
unfolding every
every_last t [] x = and-true (t x)
every_last t (y ∷ ys) x = rw (every_last t ys x) (sym (and_assoc (t y) (every t ys) (t x)))

every_list : {A : Type 0} (t : A → Bool) (f : ℕ → A) (n : ℕ) → every t (list_of f n) ≡ all_below n (λ k. t (f k))
unfolding every list_of all_below
every_list t f zero = refl
every_list t f (suc n) = every_last t (list_of f n) (f n) ∙ rw (every_list t f n)

module _ (xs : List ℕ) where
  abbrev pub waiting : ℕ → Bool
  waiting n = wait_ok (voice_in xs n).envelope

  one_voice : (last n : ℕ) → n < 24 → (fields_ok xs last n && waiting n) ≡ (is_row (row_of xs n) && voice_ok ((last + 1) * 8) (voice_in xs n))
  unfolding is_row voice_ok all_of wait_ok place voice_from
  one_voice last n h =
      let here : Envelope = record { phase = phase_of (get_or xs (260 + n) 0); level = get_or xs (284 + n) 0; wait = wide (get_or xs (308 + n * 2 + 0) 0) (get_or xs (308 + n * 2 + 1) 0) } in
      rw (
        voice_at_lem xs n h,
        row_at xs n 0 (omega arith),
        row_at xs n 1 (omega arith),
        row_at xs n 2 (omega arith),
        row_at xs n 3 (omega arith),
        row_at xs n 4 (omega arith),
        row_at xs n 5 (omega arith),
        row_at xs n 6 (omega arith),
        row_at xs n 8 (omega arith),
        row_at xs n 9 (omega arith),
        row_at xs n 10 (omega arith),
        same_test (get_or xs (356 + n) 0) 0xFFF (suc (get_or xs (356 + n) 0)) 0x1000 (λ i. omega arith) (λ i. omega arith),
        same_test (get_or xs (404 + n) 0) last (suc (get_or xs (404 + n) 0 * 8)) ((last + 1) * 8) (λ i. omega arith) (λ i. omega arith),
        eq-eqb (get_or xs (404 + n) 0 * 8 % 8) 0 (omega arith),
      )
      (grouped (leb (get_or xs (260 + n) 0) 5) (leb (get_or xs (284 + n) 0) 0x7FFF) (leb here.wait 0x400000) (not (active here.phase) || leb 1 here.wait) (ltb (get_or xs (356 + n) 0) 0x1000) (leb (get_or xs (380 + n) 0) 27)
      (ltb (get_or xs (404 + n) 0 * 8) ((last + 1) * 8)) (leb (get_or xs (452 + n) 0) 1) (leb (get_or xs (476 + n) 0) 0xFF) (leb (get_or xs (500 + n) 0) 1))

  -- d is the code's test of the fields, c that of the waits
  module _ (last : ℕ) (d : Bool) (ed : d ≡ all_below 24 (fields_ok xs last)) where
    voices_tested : {c : Bool} → c ≡ all_below 24 waiting → (d && c) ≡ (every is_row (parts_of xs).rows && every_ok ((last + 1) * 8) (state_of xs).voices 24)
    unfolding parts_of
    voices_tested ec = rw (every_list is_row (row_of xs) 24) (and_all _ _ 24 ed ec ∙ all_same _ _ 24 (one_voice last) ∙ all_and _ _ 24)

    pub fields_no : d ≡ false → d ≡ (every is_row (parts_of xs).rows && every_ok ((last + 1) * 8) (state_of xs).voices 24)
    fields_no t = t ∙ ap (λ b. b && all_below 24 waiting) (sym t) ∙ voices_tested refl

    pub fields_yes : {c : Bool} → d ≡ true → c ≡ all_below 24 waiting → c ≡ (every is_row (parts_of xs).rows && every_ok ((last + 1) * 8) (state_of xs).voices 24)
    fields_yes {c} t ec = ap (λ b. b && c) (sym t) ∙ voices_tested ec

  -- a phase that has no steps
  resting : (p : ℕ) → (eqb p 0 || leb 5 p) ≡ not (active (phase_of p))
  unfolding phase_of
  resting zero = refl
  resting (suc zero) = refl
  resting (suc (suc zero)) = refl
  resting (suc (suc (suc zero))) = refl
  resting (suc (suc (suc (suc zero)))) = refl
  resting (suc (suc (suc (suc (suc n))))) =
      let p : ℕ = suc (suc (suc (suc (suc n)))) in
      rw (ne_eqb p 0 (λ q. omega arith), ne_eqb p 1 (λ q. omega arith), ne_eqb p 2 (λ q. omega arith), ne_eqb p 3 (λ q. omega arith), ne_eqb p 4 (λ q. omega arith), le-leb 5 p (omega arith))

  pub wait_tested : (n : ℕ) → n < 24 → {w : ℕ} → w ≡ (voice_in xs n).envelope.wait
      → (leb w 0x400000 && ((eqb (get_or xs (260 + n) 0) 0 || leb 5 (get_or xs (260 + n) 0)) || leb 1 w)) ≡ waiting n
  unfolding wait_ok
  wait_tested n h e = rw (e, ← phase_is xs n h refl, resting)

-- ---- all but the voices

regroup : (l d r x e : Bool) → ((l && (d && (r && x))) && e) ≡ ((l && (d && (r && true))) && (e && x))
regroup true true true x e = and_comm x e
regroup true true false x e = refl
regroup true false r x e = refl
regroup false d r x e = refl

module _ (xs : List ℕ) where
  timer_at : (state_of xs).noise.timer ≡ wide (get_or xs 1269 0) (get_or xs 1270 0)
  timer_at = sym (ap (λ (n : Noise). n.timer) (noise_is xs refl))

  base_at_lem : (last b : ℕ) {size : ℕ} → size ≡ (state_of xs).choices.size → (last + 1) * 8 ≡ size → b * 2 ≡ (address_of ((last + 1) * 8) (record { 0 = get_or xs 213 0 })).0
      → (base_of (state_of xs)).0 ≡ b * 2
  base_at_lem last b e f g = sym (rw (← register_is xs 0x1A2 (omega arith), ← e, ← f) g)

  pub rest_tested : (last b : ℕ) {size p t m : ℕ} → size ≡ (state_of xs).choices.size → size_ok size ≡ true → (last + 1) * 8 ≡ size
      → (size_ok ((last + 1) * 8) ≡ true → b * 2 ≡ (address_of ((last + 1) * 8) (record { 0 = get_or xs 213 0 })).0) → p ≡ wide (get_or xs 1275 0) (get_or xs 1276 0)
      → t ≡ wide (get_or xs 1282 0) (get_or xs 1283 0) → m ≡ wide (get_or xs 1269 0) (get_or xs 1270 0)
      → ((leb (get_or xs 1272 0) 1 && (leb (get_or xs 1273 0) 1 && (leb (get_or xs 1277 0) 1 && (ltb (get_or xs 1274 0) 0x200
      && (leb b p && (ltb p (size / 2) && (ltb t (size / 2) && leb m 0x20000))))))) && every_ok size (state_of xs).voices 24)
      ≡ (is_tail (parts_of xs).tail && state_ok (state_of xs))
  unfolding is_tail state_ok all_of
  rest_tested last b {size} {p} {t} {m} e k f g ep et em =
      let z = sized size k in
      rw (
        base_at_lem last b e f (g (rw f k)),
        ← e,
        k,
        capture_at_lem xs,
        place_at xs,
        transfer_at xs,
        timer_at,
        tail_at_lem xs 4 (omega arith),
        tail_at_lem xs 5 (omega arith),
        tail_at_lem xs 9 (omega arith),
        ← ep,
        ← et,
        ← em,
        eq-eqb (get_or xs 1274 0 * 2 % 2) 0 (omega arith),
        eq-eqb (p * 2 % 2) 0 (omega arith),
        eq-eqb (t * 2 % 2) 0 (omega arith),
        same_test (suc (get_or xs 1274 0)) 0x200 (suc (get_or xs 1274 0 * 2)) 0x400 (λ i. omega arith) (λ i. omega arith),
        same_test b p (b * 2) (p * 2) (λ i. omega arith) (λ i. omega arith),
        same_test (suc p) (size / 2) (p * 2) (size - 2) (λ i. omega arith) (λ i. omega arith),
        same_test (suc t) (size / 2) (suc (t * 2)) size (λ i. omega arith) (λ i. omega arith),
        and-true (leb m 0x20000),
      )
      (regroup (leb (get_or xs 1272 0) 1) (leb (get_or xs 1273 0) 1) (leb (get_or xs 1277 0) 1) _ (every_ok size (state_of xs).voices 24))

-- ---- the whole

pub other_length : (xs : List ℕ) → (length xs ≡ state_length → ⊥) → is_tagged xs ≡ false
unfolding is_tagged all_of
other_length xs h = rw (ne_eqb (length xs) state_length h)

-- ys is the array that xs is
pub tag_tested : (xs ys : List ℕ) → IsWholeChunk xs ys state_length → {b : Bool} → (eqb (get_or ys 0 0) tag && eqb (get_or ys 1 0) version) ≡ b → is_tagged xs ≡ b
unfolding is_tagged all_of
tag_tested xs ys w e = rw (eq-eqb (length xs) state_length w.long, and-true (eqb (get_or xs 1 0) version), ← w.same) e

-- a is the test of all but the voices, b that of the voices
module _ (xs : List ℕ) (last : ℕ) (a : Bool) {size : ℕ} (t : is_tagged xs ≡ true) (f : (last + 1) * 8 ≡ size) (ea : (a && every_ok size (state_of xs).voices 24) ≡ (is_tail (parts_of xs).tail && state_ok (state_of xs))) where
  state_tested : {b : Bool} → b ≡ (every is_row (parts_of xs).rows && every_ok ((last + 1) * 8) (state_of xs).voices 24) → (a && b) ≡ is_state xs
  unfolding is_state is_well_formed are_parts
  state_tested eb =
      rw (eb, f, t, and_assoc (every is_row (parts_of xs).rows) (is_tail (parts_of xs).tail) (state_ok (state_of xs)), ← ea)
      (swap a (every is_row (parts_of xs).rows) (every_ok size (state_of xs).voices 24))

  pub rest_no : a ≡ false → a ≡ is_state xs
  rest_no n = n ∙ ap (λ x. x && (every is_row (parts_of xs).rows && every_ok ((last + 1) * 8) (state_of xs).voices 24)) (sym n) ∙ state_tested refl

  pub rest_yes : {b : Bool} → a ≡ true → b ≡ (every is_row (parts_of xs).rows && every_ok ((last + 1) * 8) (state_of xs).voices 24) → b ≡ is_state xs
  rest_yes {b} n eb = ap (λ x. x && b) (sym n) ∙ state_tested eb

-- ---- the two sizes

pub size_large : (size : ℕ) → size ≡ 0x80000 → size_ok size ≡ true
unfolding size_ok
size_large size e = rw e

pub size_small : (size : ℕ) → size ≡ 0x10000 → size_ok size ≡ true
unfolding size_ok
size_small size e = rw e

pub size_other : (xs : List ℕ) {size : ℕ} → size ≡ (state_of xs).choices.size → (size ≡ 0x80000 → ⊥) → (size ≡ 0x10000 → ⊥) → false ≡ is_state xs
unfolding is_state state_ok all_of size_ok
size_other xs {size} e l m = rw (← e, ne_eqb size 0x10000 m, ne_eqb size 0x80000 l, and-false (is_well_formed xs))
