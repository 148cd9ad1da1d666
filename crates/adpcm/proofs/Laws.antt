-- Laws of the ADPCM definitions. Assumes nothing.
use mathlib.Core.Path.{◌≡◌, refl, sym, ap, ap₂, subst, ◌∙◌}
use mathlib.Core.Bool.{Bool}
use mathlib.Core.List.{List, [], ◌∷◌, ◌++◌, map, append_assoc, append-nil}
use Prim.Native.Nat.{ℕ, zero, suc, ◌+◌, ◌-◌, ◌*◌, ◌/◌, ◌%◌, ◌^◌, ◌≤◌, ◌<◌}
use native.Mathlib.Decide.{dec_le}
use native.Mathlib.Numerals.{add-one}
use native.Mathlib.Omega.{arith}
use lib.Dec.{T}
use lib.ListN.{length, get_or-map, take, drop, get_or, set, length-drop, length-set, drop_of_length-le}
use lib.Seq.{length-take-le, get_or-take, take-suc-set, take_all, drop-cons}
use lib.IntN.{ℤ, pos, ◌+ℤ◌, ◌*ℤ◌}
use lib.Signed.{shr_z}
use borrow.Author.Tests.{lt-ltb, le-ltb}
use Rattle.fixed.specs.Bits.{field}
use Rattle.fixed.specs.Signed.{signed}
use Rattle.fixed.specs.Arithmetic.{floor_div}
use Rattle.fixed.specs.Range.{In}
use Rattle.fixed.proofs.Number.{Room}
use Rattle.fixed.proofs.Table.{below, below_at, eq_z, eq_z→eq, holds, entry}
use mir.Syntax.{w32}
use mir.Val.{to_z, of_z}
use Rattle.adpcm.specs.Adpcm.{acts_as, header_of, k0_of, k1_of, predicted_of, sample_of, samples_of, nibbles_of, block_of, after_of}
use Rattle.adpcm.specs.declared.Header.{Header}
use Rattle.adpcm.specs.declared.History.{History}

-- ---- the header

pub acts_other : (most other x : ℕ) → most < x → other ≡ acts_as most other x
unfolding acts_as
acts_other most other x h = rw (lt-ltb most x h)

pub acts_self : (most other x : ℕ) → x ≤ most → x ≡ acts_as most other x
unfolding acts_as
acts_self most other x h = rw (le-ltb most x h)

pub acts_most : (most other x : ℕ) → other ≤ most → acts_as most other x ≤ most
acts_most most other x o = by (dec_le x most)
  where
    by : Dec (x ≤ most) → acts_as most other x ≤ most
    by (yes h) = rw (← acts_self most other x h) h
    by (no h) = rw (← acts_other most other x (omega arith)) o

pub header_parts : (b s f : ℕ) → s ≡ acts_as 12 9 (b % 16) → f ≡ acts_as 4 0 (field 4 3 b) → record { shift = s; filter = f } ≡ header_of b
unfolding header_of
header_parts b s f e g = rw (e, g)

pub header_shift : (b : ℕ) (h : Header) → h ≡ header_of b → h.shift ≤ 12
unfolding header_of
header_shift b h e = rw e (acts_most 12 9 (b % 16) (omega arith))

pub header_filter : (b : ℕ) (h : Header) → h ≡ header_of b → h.filter < 5
unfolding header_of
header_filter b h e = let f = acts_most 4 0 (field 4 3 b) (omega arith) in rw e (omega arith)

-- ---- the nibble: as the top four bits of a halfword, shifted down, it is t·2^(12-shift); tested at each nibble and shift
abbrev placed : ℕ → ℕ → Bool
placed t s = eq_z (shr_z (signed 16 (t * 0x1000)) (2 ^ s)) (signed 4 t *ℤ pos (2 ^ (12 - s)))

pub nibble_placed : (t s : ℕ) → t < 16 → s ≤ 12 → shr_z (signed 16 (t * 0x1000)) (2 ^ s) ≡ signed 4 t *ℤ pos (2 ^ (12 - s))
unfolding signed
nibble_placed t s p q =
    eq_z→eq _ _ (below_at 13 (placed t) (below_at 16 (λ t. below 13 (placed t)) tt t p) s (omega arith))

-- ---- the prediction, by the filter's factors as the code has them
pub predicted_by : (filter : ℕ) (old older : ℤ) {f0 f1 : ℤ} → f0 ≡ k0_of filter → f1 ≡ k1_of filter
    → floor_div (old *ℤ f0 +ℤ older *ℤ f1 +ℤ pos 32) 64 ≡ predicted_of filter old older
unfolding predicted_of
predicted_by filter old older e g = rw (e, g)

-- ---- the nibbles of a row of bytes

pub nibbles_length : (bs : List ℕ) → length (nibbles_of bs) ≡ length bs * 2
unfolding nibbles_of
nibbles_length [] = refl
nibbles_length (b ∷ bs) = let r = nibbles_length bs in omega arith

-- nibble k of a byte, low first
abbrev nibble_of : ℕ → ℕ → ℕ
nibble_of zero b = b % 16
nibble_of (suc k) b = b / 16 % 16

at : (bs : List ℕ) (i j k : ℕ) → k < 2 → i ≡ j * 2 + k → get_or (nibbles_of bs) i 0 ≡ nibble_of k (get_or bs j 0)
unfolding nibbles_of
at [] i j zero h e = refl
at [] i j (suc k) h e = refl
at (b ∷ bs) i zero zero h e = ap (λ (n : ℕ). get_or (nibbles_of (b ∷ bs)) n 0) e
at (b ∷ bs) i zero (suc zero) h e = ap (λ (n : ℕ). get_or (nibbles_of (b ∷ bs)) n 0) e
at (b ∷ bs) i zero (suc (suc k)) h e = absurd (none h)
  where
    none : suc (suc k) < 2 → ⊥
    none h = omega arith
at (b ∷ bs) zero (suc j) k h e = absurd (none e)
  where
    none : 0 ≡ suc j * 2 + k → ⊥
    none e = omega arith
at (b ∷ bs) (suc zero) (suc j) k h e = absurd (none e)
  where
    none : 1 ≡ suc j * 2 + k → ⊥
    none e = omega arith
at (b ∷ bs) (suc (suc i)) (suc j) k h e = at bs i j k h (omega arith)

-- those of byte i, which is b
nibble_low : (bs : List ℕ) (i : ℕ) {b : ℕ} → b ≡ get_or bs i 0 → b % 16 ≡ get_or (nibbles_of bs) (i * 2) 0
nibble_low bs i e = ap (λ (b : ℕ). b % 16) e ∙ sym (at bs (i * 2) i 0 (omega arith) (omega arith))

nibble_high : (bs : List ℕ) (i : ℕ) {b : ℕ} → b ≡ get_or bs i 0 → b / 16 % 16 ≡ get_or (nibbles_of bs) (i * 2 + 1) 0
nibble_high bs i e = ap (λ (b : ℕ). b / 16 % 16) e ∙ sym (at bs (i * 2 + 1) i 1 (omega arith) (omega arith))

-- ---- a block's samples, one by one

-- of all the samples of a block with the header h, the first i stand in out, and the others come after those of `last`
pub record Part (h : Header) (bytes : List ℕ) (all out : List ℤ) (last : History) (i : ℕ) : Type 0 where
  pub rest : all ≡ take i out ++ samples_of h (drop i (nibbles_of (drop 2 bytes))) last.old last.older

-- the bytes of the nibbles, as the loop has them
abbrev pub data_of : List ℕ → List ℕ
data_of bytes = take 14 (drop 2 bytes)

data_length : (bytes : List ℕ) → length bytes ≡ 16 → length (data_of bytes) ≡ 14
data_length bytes b = let d = length-drop 2 bytes in length-take-le 14 (drop 2 bytes) (omega arith)

count : (bytes : List ℕ) → length bytes ≡ 16 → length (nibbles_of (drop 2 bytes)) ≡ 28
count bytes b = let n = nibbles_length (drop 2 bytes) in let d = length-drop 2 bytes in omega arith

module _ {h : Header} {bytes : List ℕ} where
  pub part_none : (out : List ℤ) (last : History) → h ≡ header_of (get_or bytes 0 0) → Part h bytes (block_of bytes last.old last.older) out last 0
  unfolding block_of
  part_none out last e = record { rest = rw e }

  part_more : {all out : List ℤ} {last : History} {i : ℕ} (x : ℤ) (t : ℕ) → Part h bytes all out last i → length bytes ≡ 16 → length out ≡ 28 → i < 28
      → t ≡ get_or (nibbles_of (drop 2 bytes)) i 0 → x ≡ sample_of t h last.old last.older → Part h bytes all (set out i x) (record { old = x; older = last.old }) (i + 1)
  unfolding samples_of
  part_more {out = out} {i = i} x t p b o l e f =
      let n = count bytes b in
      record { rest = p.rest ∙ rw (drop-cons (nibbles_of (drop 2 bytes)) i 0 (omega arith), ← e, ← f, add-one i, take-suc-set out i x (omega arith), append_assoc) }

  -- both samples of byte i past the first two
  pub part_byte : {all out : List ℤ} {last between after : History} {i : ℕ} (x y : ℤ) → Part h bytes all out last (i * 2) → length bytes ≡ 16 → length out ≡ 28
      → i < length (data_of bytes)
      → x ≡ sample_of (get_or (data_of bytes) i 0 % 16) h last.old last.older → between ≡ record { old = x; older = last.old }
      → y ≡ sample_of (get_or (data_of bytes) i 0 / 16 % 16) h between.old between.older → after ≡ record { old = y; older = between.old }
      → Part h bytes all (set (set out (i * 2) x) (i * 2 + 1) y) after ((i + 1) * 2)
  part_byte {all} {out} {last} {between} {after} {i} x y p n o l e f g k =
      let c = data_length bytes n in
      let d : get_or (data_of bytes) i 0 ≡ get_or (drop 2 bytes) i 0 = get_or-take 14 (drop 2 bytes) i 0 (omega arith) in
      let next : i * 2 + 1 + 1 ≡ (i + 1) * 2 = omega arith in
      let q = part_more x _ p n o (omega arith) (nibble_low (drop 2 bytes) i d) e in
      let r = subst (λ (s : History). Part h bytes all (set out (i * 2) x) s (i * 2 + 1)) (sym f) q in
      rw (k, ← next) (part_more y _ r n (length-set out (i * 2) x ∙ o) (omega arith) (nibble_high (drop 2 bytes) i d) g)

  -- o and p are the two samples before, as the loop has them
  pub part_all : {out : List ℤ} {o p old older : ℤ} {last : History} {i : ℕ} → Part h bytes (block_of bytes o p) out last (i * 2) → length bytes ≡ 16 → length out ≡ 28
      → length (data_of bytes) ≤ i → o ≡ old → p ≡ older → out ≡ block_of bytes old older
  unfolding samples_of
  part_all {out = out} {i = i} r b o l e f =
      let n = count bytes b in
      let m = data_length bytes b in
      sym
      (ap₂ (block_of bytes) (sym e) (sym f)
      ∙ r.rest
      ∙ rw (take_all (i * 2) out (omega arith), drop_of_length-le (nibbles_of (drop 2 bytes)) {i = i * 2} (omega arith), append-nil out))

-- ---- the last two samples

pub after_append : (h : History) (xs ys : List ℤ) → after_of (after_of h xs) ys ≡ after_of h (xs ++ ys)
unfolding after_of
after_append h [] ys = refl
after_append h (x ∷ xs) ys = after_append (record { old = x; older = h.old }) xs ys

pub after_last : (h : History) (xs : List ℤ) (n : ℕ) → length xs ≡ suc (suc n) → record { old = get_or xs (suc n) (pos 0); older = get_or xs n (pos 0) } ≡ after_of h xs
unfolding after_of
after_last h [] n e = absurd (omega arith)
after_last h (x ∷ []) n e = absurd (omega arith)
after_last h (x ∷ y ∷ []) n e = let q : n ≡ 0 = omega arith in rw q
after_last h (x ∷ y ∷ z ∷ xs) zero e = absurd (omega arith)
after_last h (x ∷ y ∷ z ∷ xs) (suc n) e = after_last (record { old = x; older = h.old }) (y ∷ z ∷ xs) n (omega arith)

-- ---- the factors

-- an entry of the code's table xs of pairs, by one part of it: the definition's f, from -l to h
pub pair_entry : (f : ℕ → ℤ) (l h : ℕ) (part : ℤ × ℤ → ℤ) (xs : List (ℤ × ℤ)) (n : ℕ) → T (below n (holds f l h (map part xs))) → part (pos 0, pos 0) ≡ pos 0
    → (k : ℕ) → k < n → Room w32 l h → let x = part (get_or xs k (pos 0, pos 0)) in (to_z w32 (of_z w32 x) ≡ f k) × In l h (to_z w32 (of_z w32 x))
pair_entry f l h part xs n t z k p m =
    subst (λ (x : ℤ). (to_z w32 (of_z w32 x) ≡ f k) × In l h (to_z w32 (of_z w32 x)))
    (ap (get_or (map part xs) k) (sym z) ∙ get_or-map part xs k (pos 0, pos 0)) (entry f l h (map part xs) n t w32 k p m)
