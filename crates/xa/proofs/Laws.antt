-- Laws of the XA definitions. Assumes nothing.
use mathlib.Core.Path.{◌≡◌, refl, sym, subst, ap, ap₂, ◌∙◌}
use mathlib.Core.Bool.{Bool, true, false, cond, ◌&&◌}
use mathlib.Core.List.{List, [], ◌∷◌, ◌++◌}
use Prim.Native.Nat.{ℕ, zero, suc, ◌+◌, ◌-◌, ◌*◌, ◌/◌, ◌%◌, ◌≤◌, ◌<◌}
use native.Mathlib.Numerals.{add-one}
use native.Mathlib.Nat.{div-one, mul-le-mul_right}
use native.Mathlib.Omega.{arith}
use native.Mathlib.Decide.{ℕ_discrete}
use borrow.Author.Tests.{eq-eqb, ne_eqb}
use lib.ListN.{length, set, take, drop, get_or, length-append, length-drop}
use lib.Seq.{get_or-take, get_or-drop, drop-drop}
use lib.IntN.{ℤ}
use lib.Dec.{eqb}
use Rattle.fixed.specs.Bits.{field}
use Rattle.std.specs.List.{list_all}
use Rattle.std.specs.Simd.{first_chunks}
use Rattle.std.specs.Cmp.Lexicographic.{pointwise}
use Rattle.fixed.specs.Tests.{all_below}
use Rattle.fixed.proofs.Bools.{all_and}
use Rattle.adpcm.specs.declared.Header.{Header}
use Rattle.adpcm.specs.declared.History.{History}
use Rattle.adpcm.specs.Adpcm.{acts_as, sample_of, samples_of, after_of}
use Rattle.adpcm.proofs.Laws.{acts_most, after_append}
use Rattle.std.specs.Prelude.{Err, Ok}
use Rattle.xa.specs.declared.Histories.{Histories}
use Rattle.xa.specs.declared.Refusal.{Refusal}
use Rattle.xa.specs.declared.Refusal.TheVariants.{HeaderCopies, EightBit, Lengths}
use Rattle.xa.specs.Xa.{byte_of, is_copied, is_group_copied, are_copied, header_byte, header_of, nibble_of, nibbles_of, unit_of, channel_of, mono_of, left_of, right_of, alternate_of, placed_of, is_sized, refused_with, number_of, answer_of, accepted_of, decoded_of}

-- ---- the header

pub header_parts : (b s f : ℕ) → s ≡ acts_as 12 9 (b % 16) → f ≡ field 4 2 b → record { shift = s; filter = f } ≡ header_of b
unfolding header_of
header_parts b s f e g = rw (e, g)

pub header_shift : (b : ℕ) (h : Header) → h ≡ header_of b → h.shift ≤ 12
unfolding header_of
header_shift b h e = rw e (acts_most 12 9 (b % 16) (omega arith))

pub header_filter : (b : ℕ) (h : Header) → h ≡ header_of b → h.filter < 5
unfolding header_of
header_filter b h e = rw e (omega arith)

-- ---- the nibbles

pub nibble_even : (sector : List ℕ) (n j : ℕ) → n % 2 ≡ 0 → byte_of sector (n / 8) (16 + 4 * j + n % 8 / 2) % 16 ≡ nibble_of sector n j
unfolding nibble_of
nibble_even sector n j e = rw (e, div-one (byte_of sector (n / 8) (16 + 4 * j + n % 8 / 2)))

pub nibble_odd : (sector : List ℕ) (n j : ℕ) → (n % 2 ≡ 0 → ⊥) → byte_of sector (n / 8) (16 + 4 * j + n % 8 / 2) / 16 % 16 ≡ nibble_of sector n j
unfolding nibble_of
nibble_odd sector n j f = let e : n % 2 ≡ 1 = omega arith in rw e

pub nibble_below : (sector : List ℕ) (n j : ℕ) {t : ℕ} → t ≡ nibble_of sector n j → t < 16
unfolding nibble_of
nibble_below sector n j e = rw e (omega arith)

-- for the place of a sample in a buffer: omega takes a product of two variables as it is
pub step_below : (j k step : ℕ) → j ≤ k → j * step ≤ k * step
step_below j k step h = mul-le-mul_right step h

-- ---- a unit's samples, one by one

-- of the unit's samples after `first`, the first j stand in out, and the others come after `last`
pub record Part (sector : List ℕ) (n : ℕ) (h : Header) (at step : ℕ) (before : List ℤ) (first : History) (out : List ℤ) (last : History) (j : ℕ) : Type 0 where
  pub placed : placed_of before at step (unit_of sector n first) ≡ placed_of out (at + j * step) step (samples_of h (nibbles_of sector n j (28 - j)) last.old last.older)
  pub after : after_of first (unit_of sector n first) ≡ after_of last (samples_of h (nibbles_of sector n j (28 - j)) last.old last.older)

module _ {sector : List ℕ} {n : ℕ} {h : Header} {at step : ℕ} {before : List ℤ} {first : History} where
  pub part_none : h ≡ header_of (header_byte sector n) → Part sector n h at step before first before first 0
  unfolding unit_of
  part_none e = let q : at + 0 * step ≡ at = omega arith in record { placed = rw (q, e); after = rw e }

  pub part_begun : {last : History} → h ≡ header_of (header_byte sector n) → last ≡ first → Part sector n h at step before first before last 0
  part_begun e f = subst (λ l. Part sector n h at step before first before l 0) (sym f) (part_none e)

  pub part_more : {out : List ℤ} {last next : History} {j : ℕ} {t : ℕ} {x : ℤ} → Part sector n h at step before first out last j → j < 28 → t ≡ nibble_of sector n j
      → x ≡ sample_of t h last.old last.older → next ≡ record { old = x; older = last.old } → Part sector n h at step before first (set out (at + j * step) x) next (j + 1)
  unfolding nibbles_of samples_of placed_of after_of
  part_more {j = j} p l e f g =
      let k : 28 - j ≡ suc (28 - (j + 1)) = omega arith in
      let q : at + (j + 1) * step ≡ at + j * step + step = omega arith in
      rw g (record { placed = p.placed ∙ rw (k, q, add-one j, ← e, ← f); after = p.after ∙ rw (k, add-one j, ← e, ← f) })

  pub part_all : {out : List ℤ} {last : History} {j : ℕ} → Part sector n h at step before first out last j → 28 ≤ j
      → (out ≡ placed_of before at step (unit_of sector n first)) × (last ≡ after_of first (unit_of sector n first))
  unfolding nibbles_of samples_of placed_of after_of
  part_all {j = j} p l = let k : 28 - j ≡ 0 = omega arith in (sym (p.placed ∙ rw k), sym (p.after ∙ rw k))

-- ---- a channel's samples, unit by unit

samples_length : (h : Header) (ts : List ℕ) (old older : ℤ) → length (samples_of h ts old older) ≡ length ts
unfolding samples_of
samples_length h [] old older = refl
samples_length h (t ∷ ts) old older = ap suc (samples_length h ts (sample_of t h old older) old)

nibbles_length : (sector : List ℕ) (n j k : ℕ) → length (nibbles_of sector n j k) ≡ k
unfolding nibbles_of
nibbles_length sector n j zero = refl
nibbles_length sector n j (suc k) = ap suc (nibbles_length sector n (suc j) k)

unit_length : (sector : List ℕ) (n : ℕ) (h : History) → length (unit_of sector n h) ≡ 28
unfolding unit_of
unit_length sector n h = samples_length (header_of (header_byte sector n)) (nibbles_of sector n 0 28) h.old h.older ∙ nibbles_length sector n 0 28

pub channel_length : (sector : List ℕ) (first step : ℕ) (h : History) (n : ℕ) → length (channel_of sector first step h n) ≡ n * 28
unfolding channel_of
channel_length sector first step h zero = refl
channel_length sector first step h (suc n) =
    let before = channel_of sector first step h n in
    let last = after_of h before in
    length-append before (unit_of sector (first + n * step) last) ∙ rw (channel_length sector first step h n, unit_length sector (first + n * step) last) (omega arith)

placed_append : (out : List ℤ) (at step : ℕ) (xs ys : List ℤ) → placed_of (placed_of out at step xs) (at + length xs * step) step ys ≡ placed_of out at step (xs ++ ys)
unfolding placed_of
placed_append out at step [] ys = let q : at + 0 * step ≡ at = omega arith in rw q
placed_append out at step (x ∷ xs) ys =
    let q : at + suc (length xs) * step ≡ at + step + length xs * step = omega arith in rw q (placed_append (set out at x) (at + step) step xs ys)

-- the samples of a channel's first n units stand in `after`, and their last two are `last`
pub record Channel (sector : List ℕ) (first step : ℕ) (h : History) (before after : List ℤ) (last : History) (n : ℕ) : Type 0 where
  pub placed : after ≡ placed_of before first step (channel_of sector first step h n)
  pub kept : last ≡ after_of h (channel_of sector first step h n)

module _ {sector : List ℕ} {first step : ℕ} {h : History} {before : List ℤ} where
  pub channel_none : Channel sector first step h before before h 0
  unfolding channel_of placed_of after_of
  channel_none = record { placed = refl; kept = refl }

  pub channel_more : {out out' : List ℤ} {last last' : History} {n : ℕ} → Channel sector first step h before out last n
      → (out' ≡ placed_of out (first + n * step * 28) step (unit_of sector (first + n * step) last)) × (last' ≡ after_of last (unit_of sector (first + n * step) last))
      → Channel sector first step h before out' last' (n + 1)
  unfolding channel_of
  channel_more {n = n} c u =
      let xs = channel_of sector first step h n in
      let ys = unit_of sector (first + n * step) (after_of h xs) in
      let l = channel_length sector first step h n in
      let q : first + n * step * 28 ≡ first + length xs * step = rw l (omega arith) in
      record { placed = u.0 ∙ rw (c.placed, c.kept, q, add-one n) (placed_append before first step xs ys); kept = u.1 ∙ rw (c.kept, add-one n) (after_append h xs ys) }

  pub channel_all : {out : List ℤ} {last : History} {n count : ℕ} → Channel sector first step h before out last n → n ≤ count → count ≤ n
      → (out ≡ placed_of before first step (channel_of sector first step h count)) × (last ≡ after_of h (channel_of sector first step h count))
  channel_all {n = n} {count} c l g = let q : count ≡ n = omega arith in rw q (c.placed, c.kept)

-- ---- channels in a buffer

placed_past : (y : ℤ) (ys : List ℤ) (at step : ℕ) (xs : List ℤ) → placed_of (y ∷ ys) (suc at) step xs ≡ y ∷ placed_of ys at step xs
unfolding placed_of
placed_past y ys at step [] = refl
placed_past y ys at step (x ∷ xs) = let q : suc at + step ≡ suc (at + step) = omega arith in rw q (placed_past y (set ys at x) (at + step) step xs)

placed_mono : (xs out : List ℤ) → length out ≡ length xs → placed_of out 0 1 xs ≡ xs
unfolding placed_of
placed_mono [] [] e = refl
placed_mono [] (y ∷ out) e = absurd (omega arith)
placed_mono (x ∷ xs) [] e = absurd (omega arith)
placed_mono (x ∷ xs) (y ∷ out) e = placed_past x out 0 1 xs ∙ ap (λ (zs : List ℤ). x ∷ zs) (placed_mono xs out (omega arith))

placed_stereo : (xs ys out : List ℤ) → length ys ≡ length xs → length out ≡ length xs + length xs → placed_of (placed_of out 0 2 xs) 1 2 ys ≡ alternate_of xs ys
unfolding placed_of alternate_of
placed_stereo [] [] [] e l = refl
placed_stereo [] [] (a ∷ out) e l = absurd (omega arith)
placed_stereo [] (y ∷ ys) out e l = absurd (omega arith)
placed_stereo (x ∷ xs) [] out e l = absurd (omega arith)
placed_stereo (x ∷ xs) (y ∷ ys) [] e l = absurd (omega arith)
placed_stereo (x ∷ xs) (y ∷ ys) (a ∷ []) e l = absurd (omega arith)
placed_stereo (x ∷ xs) (y ∷ ys) (a ∷ b ∷ out) e l =
    ap (λ (zs : List ℤ). placed_of zs 1 2 (y ∷ ys)) (placed_past x (b ∷ out) 1 2 xs ∙ ap (λ (zs : List ℤ). x ∷ zs) (placed_past b out 0 2 xs))
    ∙ placed_past x (y ∷ placed_of out 0 2 xs) 2 2 ys
    ∙ ap (λ (zs : List ℤ). x ∷ zs) (placed_past y (placed_of out 0 2 xs) 1 2 ys)
    ∙ ap (λ (zs : List ℤ). x ∷ y ∷ zs) (placed_stereo xs ys out (omega arith) (omega arith))

-- ---- the copies of the headers

-- a test of many numbers, from the first on
all_front : (f : ℕ → Bool) (n : ℕ) → all_below (suc n) f ≡ (f 0 && all_below n (λ k. f (suc k)))
unfolding all_below
all_front f zero = by (f 0)
  where
    by : (b : Bool) → (true && b) ≡ (b && true)
    by true = refl
    by false = refl
all_front f (suc n) = rw (all_front f n) (by (f 0) (all_below n (λ k. f (suc k))) (f (suc n)))
  where
    by : (a b c : Bool) → ((a && b) && c) ≡ (a && (b && c))
    by true b c = refl
    by false b c = refl

all_alike : (f g : ℕ → Bool) (n : ℕ) → ((k : ℕ) → k < n → f k ≡ g k) → all_below n f ≡ all_below n g
unfolding all_below
all_alike f g zero e = refl
all_alike f g (suc n) e = rw (all_alike f g n (λ k l. e k (omega arith)), e n (omega arith))

-- `==` on n bytes from i on and n from j on
same_bytes : (n : ℕ) (xs ys : List ℕ) → n ≤ length xs → n ≤ length ys → pointwise eqb (take n xs) (take n ys) ≡ all_below n (λ k. eqb (get_or xs k 0) (get_or ys k 0))
unfolding all_below
same_bytes zero xs ys l m = refl
same_bytes (suc n) [] ys l m = absurd (omega arith)
same_bytes (suc n) (x ∷ xs) [] l m = absurd (omega arith)
same_bytes (suc n) (x ∷ xs) (y ∷ ys) l m =
    rw (all_front (λ k. eqb (get_or (x ∷ xs) k 0) (get_or (y ∷ ys) k 0)) n, same_bytes n xs ys (omega arith) (omega arith))

pub same_runs : (xs : List ℕ) (n i j : ℕ) → n + i ≤ length xs → n + j ≤ length xs
    → pointwise eqb (take n (drop i xs)) (take n (drop j xs)) ≡ all_below n (λ k. eqb (get_or xs (i + k) 0) (get_or xs (j + k) 0))
same_runs xs n i j l m =
    let a = length-drop i xs in
    let b = length-drop j xs in
    same_bytes n (drop i xs) (drop j xs) (omega arith) (omega arith)
    ∙ all_alike _ _ n (λ k p. ap₂ eqb (get_or-drop i xs k 0) (get_or-drop j xs k 0))

-- four bytes of a list that is cut into fours
word : (n k : ℕ) (xs : List ℕ) → k < n → get_or (first_chunks 4 n xs) k [] ≡ take 4 (drop (k * 4) xs)
word zero k xs l = absurd (omega (arith, l))
word (suc n) zero xs l = refl
word (suc n) (suc k) xs l =
    let q : 4 + k * 4 ≡ suc k * 4 = omega arith in
    word n k (drop 4 xs) (omega (arith, l)) ∙ ap (take 4) (drop-drop (k * 4) 4 xs ∙ ap (λ i. drop i xs) q)

-- four bytes of a group, as `as_chunks` cuts it
pub word_of : (xs : List ℕ) {words : List (List ℕ)} → length xs ≡ 128 → words ≡ first_chunks 4 (length xs / 4) xs → (k : ℕ) → k < 32 → get_or words k [] ≡ take 4 (drop (k * 4) xs)
word_of xs l e k m = ap (λ ws. get_or ws k []) (e ∙ ap (λ n. first_chunks 4 (n / 4) xs) l) ∙ word 32 k xs m

-- what `==` says of the copies in one group
pub group_by : (xs : List ℕ) {a b : Bool} → length xs ≡ 128 → a ≡ pointwise eqb (take 4 (drop 0 xs)) (take 4 (drop 4 xs)) → b ≡ pointwise eqb (take 4 (drop 12 xs)) (take 4 (drop 8 xs))
    → (a && b) ≡ is_group_copied xs 0
unfolding all_below
group_by xs l e f =
    rw (e, f, same_runs xs 4 0 4 (omega arith) (omega arith), same_runs xs 4 12 8 (omega arith) (omega arith))
    (sym (all_and (λ k. eqb (get_or xs k 0) (get_or xs (4 + k) 0)) (λ k. eqb (get_or xs (12 + k) 0) (get_or xs (8 + k) 0)) 4))

module _ (xs : List ℕ) where
  byte_next : (g i : ℕ) → byte_of xs (suc g) i ≡ byte_of (drop 128 xs) g i
  byte_next g i =
      let q : suc g * 128 + i ≡ 128 + (g * 128 + i) = omega arith in
      ap (λ (n : ℕ). get_or xs n 0) q ∙ sym (get_or-drop 128 xs (g * 128 + i) 0)

  next_group : (g : ℕ) → is_group_copied xs (suc g) ≡ is_group_copied (drop 128 xs) g
  next_group g = all_alike (is_copied xs (suc g)) (is_copied (drop 128 xs) g) 4 (λ i l. rw (byte_next g i, byte_next g (4 + i), byte_next g (12 + i), byte_next g (8 + i)))

  first_group : is_group_copied (take 128 xs) 0 ≡ is_group_copied xs 0
  first_group =
      all_alike (is_copied (take 128 xs) 0) (is_copied xs 0) 4
      (λ i l. rw (
        get_or-take 128 xs (0 * 128 + i) 0 (omega arith),
        get_or-take 128 xs (0 * 128 + (4 + i)) 0 (omega arith),
        get_or-take 128 xs (0 * 128 + (12 + i)) 0 (omega arith),
        get_or-take 128 xs (0 * 128 + (8 + i)) 0 (omega arith),
      ))

-- every group, as the code has them
pub groups_copied : (n : ℕ) (xs : List ℕ) → list_all (λ group. is_group_copied group 0) (first_chunks 128 n xs) ≡ all_below n (is_group_copied xs)
unfolding all_below
groups_copied zero xs = refl
groups_copied (suc n) xs =
    ap₂ (λ (a b : Bool). a && b) (first_group xs) (groups_copied n (drop 128 xs) ∙ sym (all_alike (λ k. is_group_copied xs (suc k)) (is_group_copied (drop 128 xs)) n (λ k l. next_group xs k)))
    ∙ sym (all_front (is_group_copied xs) n)

-- ---- a sector

module _ (sector : List ℕ) (out : List ℤ) where
  sized : length sector ≡ 2304 → length out ≡ 4032 → is_sized sector out ≡ true
  sized e f = rw (eq-eqb (length sector) 2304 e) (eq-eqb (length out) 4032 f)

  unsized : (length sector ≡ 2304 → length out ≡ 4032 → ⊥) → is_sized sector out ≡ false
  unsized f =
      elim (ℕ_discrete (length sector) 2304) [
        | yes e ↦ rw (eq-eqb (length sector) 2304 e) (ne_eqb (length out) 4032 (f e))
        | no n ↦ rw (ne_eqb (length sector) 2304 n)
      ]

  pub number_14 : (eight : Bool) → (length sector ≡ 2304 → length out ≡ 4032 → ⊥) → 14 ≡ number_of sector eight out
  unfolding number_of
  number_14 eight f = rw (unsized f)

  module _ (e : length sector ≡ 2304) (f : length out ≡ 4032) where
    pub number_13 : (eight : Bool) → eight ≡ true → 13 ≡ number_of sector eight out
    unfolding number_of
    number_13 eight t = rw (sized e f, t)

    module _ (eight : Bool) (t : eight ≡ false) where
      pub number_12 : {c : Bool} → c ≡ are_copied sector → c ≡ false → 12 ≡ number_of sector eight out
      unfolding number_of
      number_12 {c} g u = rw (sized e f, t, ← g, u)

      pub number_0 : {c : Bool} → c ≡ are_copied sector → c ≡ true → 0 ≡ number_of sector eight out
      unfolding number_of
      number_0 {c} g u = rw (sized e f, t, ← g, u)

  -- a sector that is accepted has both lengths
  pub number_sized : (eight : Bool) → 0 ≡ number_of sector eight out → (length sector ≡ 2304) × (length out ≡ 4032)
  unfolding number_of
  number_sized eight e =
      elim (ℕ_discrete (length sector) 2304) [
        | yes p ↦
            elim (ℕ_discrete (length out) 4032) [
              | yes q ↦ (p, q)
              | no n ↦ absurd (none _ (unsized (λ x y. n y)) e)
            ]
        | no n ↦ absurd (none _ (unsized (λ x y. n x)) e)
      ]
    where
      none : {b : Bool} (n : ℕ) → b ≡ false → 0 ≡ cond b n 14 → ⊥
      none n f z = let k = rw f at z in omega arith

module _ (sector : List ℕ) (hs : Histories) (out : List ℤ) (s : length out ≡ 4032) where
  pub stereo_accepted : {left right : History} {out₁ out₂ : List ℤ}
      → (out₁ ≡ placed_of out 0 2 (left_of sector hs.left)) × (left ≡ after_of hs.left (left_of sector hs.left))
      → (out₂ ≡ placed_of out₁ 1 2 (right_of sector hs.right)) × (right ≡ after_of hs.right (right_of sector hs.right))
      → record { number = 0; histories = record { left = left; right = right; mono = hs.mono }; out = out₂ } ≡ accepted_of sector true hs
  unfolding accepted_of
  stereo_accepted l r =
      let a = channel_length sector 0 2 hs.left 72 in
      let b = channel_length sector 1 2 hs.right 72 in
      rw (l.1, r.1, r.0, l.0, placed_stereo (left_of sector hs.left) (right_of sector hs.right) out (b ∙ sym a) (s ∙ omega (arith, a)))

  pub mono_accepted : {mono : History} {out₁ : List ℤ}
      → (out₁ ≡ placed_of out 0 1 (mono_of sector hs.mono)) × (mono ≡ after_of hs.mono (mono_of sector hs.mono))
      → record { number = 0; histories = record { left = hs.left; right = hs.right; mono = mono }; out = out₁ } ≡ accepted_of sector false hs
  unfolding accepted_of
  mono_accepted m = rw (m.1, m.0, placed_mono (mono_of sector hs.mono) out (s ∙ sym (channel_length sector 0 1 hs.mono 144)))

module _ (sector : List ℕ) (stereo eight : Bool) (hs : Histories) (out : List ℤ) where
  pub decoded_refused : (r : Refusal) → refused_with r ≡ number_of sector eight out → answer_of (Err r) hs out ≡ decoded_of sector stereo eight hs out
  unfolding decoded_of
  decoded_refused HeaderCopies e = rw (← e)
  decoded_refused EightBit e = rw (← e)
  decoded_refused Lengths e = rw (← e)

  pub decoded_accepted : {b : Bool} {after : Histories} {out₁ : List ℤ} → 0 ≡ number_of sector eight out → stereo ≡ b → record { number = 0; histories = after; out = out₁ } ≡ accepted_of sector b hs
      → answer_of (Ok after) hs out₁ ≡ decoded_of sector stereo eight hs out
  unfolding decoded_of
  decoded_accepted e t a = rw (← e, t) a
