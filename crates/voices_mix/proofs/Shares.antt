-- Sides and sums, from what the code's parts give, and their ranges. Assumes nothing.
use mathlib.Core.Path.{◌≡◌, refl, subst, ◌∙◌}
use mathlib.Core.Bool.{Bool, true, false, cond}
use mathlib.Core.List.{List}
use Prim.Native.Nat.{ℕ, suc, ◌+◌, ◌*◌, ◌≤◌, ◌<◌}
use native.Mathlib.Numerals.{add-one}
use native.Mathlib.Nat.{mul-zero}
use native.Mathlib.Omega.{arith}
use lib.ListN.{length, get_or, set, length-set}
use lib.Seq.{get_or-set_same, get_or-set_other}
use borrow.Author.Count.{below_more}
use lib.IntN.{ℤ, pos, negsuc, ◌+ℤ◌}
use Rattle.fixed.specs.Bits.{bit}
use Rattle.fixed.specs.Range.{In}
use Rattle.fixed.specs.Arithmetic.{product_of, volume_of}
use Rattle.fixed.proofs.Number.{add_in}
use Rattle.registers.specs.Map.{of_voice, flag_of, Flags}
use Rattle.stereo.specs.declared.Stereo.{Stereo}
use Rattle.voices.specs.Voices.{side_of, sides_of, silent, Volumes, shares_of, joined_of, gated_of, captured_of, added_of, SidesIn, mixed_of}

-- x and y are the amplitude as the calls have it, p and q the volumes, l' and r' the shares as the answer holds them
pub shares_as : (v : List ℤ) (k : ℕ) (a : ℤ) {l r l' r' x y p q : ℤ} → p ≡ get_or v k (pos 0) → q ≡ get_or v (k + 24) (pos 0) → x ≡ a → y ≡ a
    → l ≡ product_of x p → r ≡ product_of y q → l' ≡ l → r' ≡ r → record { left = l'; right = r' } ≡ shares_of v k a
unfolding shares_of
shares_as v k a p q x y l r l' r' = rw (l', r', l, r, x, y, p, q)

-- ---- volumes, and what they give of an amplitude

pub gate_on : {b : Bool} (x : ℤ) {y : ℤ} → b ≡ true → y ≡ x → y ≡ cond b x (pos 0)
gate_on x e p = rw (e, p)

pub gate_off : {b : Bool} (x : ℤ) → b ≡ false → pos 0 ≡ cond b x (pos 0)
gate_off x e = rw e

product_none : (a : ℤ) → product_of a (pos 0) ≡ pos 0
unfolding product_of
product_none (pos a) = rw (mul-zero a)
product_none (negsuc a) = rw (mul-zero (suc a))

gated_shares : (b : Bool) (a x y : ℤ)
    → record { left = product_of a (cond b x (pos 0)); right = product_of a (cond b y (pos 0)) } ≡ gated_of b (record { left = product_of a x; right = product_of a y })
unfolding gated_of
gated_shares true a x y = refl
gated_shares false a x y = rw (product_none a)

-- the volumes of the first n voices
pub record Filled (regs : List ℕ) (v : List ℤ) (n : ℕ) : Type 0 where
  pub few : n ≤ 24
  pub len : length v ≡ 96
  pub left : (k : ℕ) → k < n → get_or v k (pos 0) ≡ volume_of (of_voice regs k 0)
  pub right : (k : ℕ) → k < n → get_or v (k + 24) (pos 0) ≡ volume_of (of_voice regs k 2)
  pub wet_left : (k : ℕ) → k < n → get_or v (k + 48) (pos 0) ≡ cond (flag_of regs 0x198 k) (volume_of (of_voice regs k 0)) (pos 0)
  pub wet_right : (k : ℕ) → k < n → get_or v (k + 72) (pos 0) ≡ cond (flag_of regs 0x198 k) (volume_of (of_voice regs k 2)) (pos 0)

pub filled_none : (regs : List ℕ) (v : List ℤ) → length v ≡ 96 → Filled regs v 0
filled_none regs v l =
    record { few = omega arith; len = l; left = λ k h. absurd (none k h); right = λ k h. absurd (none k h); wet_left = λ k h. absurd (none k h); wet_right = λ k h. absurd (none k h) }
  where
    none : (k : ℕ) → k < 0 → ⊥
    none k h = omega arith

pub filled_end : {regs : List ℕ} {v : List ℤ} {n : ℕ} → Filled regs v n → 24 ≤ n → Volumes regs v
filled_end f h =
    record { left = λ k p. f.left k (omega arith); right = λ k p. f.right k (omega arith); wet_left = λ k p. f.wet_left k (omega arith); wet_right = λ k p. f.wet_right k (omega arith) }

module _ (v : List ℤ) (n : ℕ) (a b c d : ℤ) (len : length v ≡ 96) (h : n < 24) where
  abbrev two : List ℤ
  two = set (set v n a) (n + 24) b

  abbrev three : List ℤ
  three = set two (n + 48) c

  abbrev four : List ℤ
  four = set three (n + 72) d

  three_len : length three ≡ 96
  three_len = length-set two (n + 48) c ∙ length-set (set v n a) (n + 24) b ∙ length-set v n a ∙ len

  four_len : length four ≡ 96
  four_len = length-set three (n + 72) d ∙ three_len

  four_other : (i : ℕ) → (i ≡ n → ⊥) → (i ≡ n + 24 → ⊥) → (i ≡ n + 48 → ⊥) → (i ≡ n + 72 → ⊥) → get_or four i (pos 0) ≡ get_or v i (pos 0)
  four_other i p q r s =
      get_or-set_other three (n + 72) i d (pos 0) s ∙ get_or-set_other two (n + 48) i c (pos 0) r ∙ get_or-set_other (set v n a) (n + 24) i b (pos 0) q
      ∙ get_or-set_other v n i a (pos 0) p

  four_a : get_or four n (pos 0) ≡ a
  four_a =
      get_or-set_other three (n + 72) n d (pos 0) (λ e. omega arith) ∙ get_or-set_other two (n + 48) n c (pos 0) (λ e. omega arith)
      ∙ get_or-set_other (set v n a) (n + 24) n b (pos 0) (λ e. omega arith)
      ∙ get_or-set_same v n a (pos 0) (omega arith)

  four_b : get_or four (n + 24) (pos 0) ≡ b
  four_b =
      get_or-set_other three (n + 72) (n + 24) d (pos 0) (λ e. omega arith) ∙ get_or-set_other two (n + 48) (n + 24) c (pos 0) (λ e. omega arith)
      ∙ get_or-set_same (set v n a) (n + 24) b (pos 0) (rw (length-set v n a) (omega arith))

  four_c : get_or four (n + 48) (pos 0) ≡ c
  four_c =
      get_or-set_other three (n + 72) (n + 48) d (pos 0) (λ e. omega arith)
      ∙ get_or-set_same two (n + 48) c (pos 0) (rw (length-set (set v n a) (n + 24) b, length-set v n a) (omega arith))

  four_d : get_or four (n + 72) (pos 0) ≡ d
  four_d = get_or-set_same three (n + 72) d (pos 0) (rw three_len (omega arith))

-- one voice more
pub filled_more : (regs : List ℕ) (v : List ℤ) (n : ℕ) {a b c d : ℤ} → Filled regs v n → n < 24 → a ≡ volume_of (of_voice regs n 0) → b ≡ volume_of (of_voice regs n 2)
    → c ≡ cond (flag_of regs 0x198 n) (volume_of (of_voice regs n 0)) (pos 0) → d ≡ cond (flag_of regs 0x198 n) (volume_of (of_voice regs n 2)) (pos 0)
    → Filled regs (set (set (set (set v n a) (n + 24) b) (n + 48) c) (n + 72) d) (n + 1)
filled_more regs v n {a} {b} {c} {d} f h ea eb ec ed =
    let l = f.len in
    record {
      few = omega arith;
      len = four_len v n a b c d l h;
      left = below_more (λ (k : ℕ). get_or (four v n a b c d l h) k (pos 0) ≡ volume_of (of_voice regs k 0)) n
          (λ k p. four_other v n a b c d l h k (λ e. omega arith) (λ e. omega arith) (λ e. omega arith) (λ e. omega arith) ∙ f.left k p)
          (four_a v n a b c d l h ∙ ea);
      right = below_more (λ (k : ℕ). get_or (four v n a b c d l h) (k + 24) (pos 0) ≡ volume_of (of_voice regs k 2)) n
          (λ k p. four_other v n a b c d l h (k + 24) (λ e. omega arith) (λ e. omega arith) (λ e. omega arith) (λ e. omega arith) ∙ f.right k p)
          (four_b v n a b c d l h ∙ eb);
      wet_left = below_more (λ (k : ℕ). get_or (four v n a b c d l h) (k + 48) (pos 0) ≡ cond (flag_of regs 0x198 k) (volume_of (of_voice regs k 0)) (pos 0)) n
          (λ k p. four_other v n a b c d l h (k + 48) (λ e. omega arith) (λ e. omega arith) (λ e. omega arith) (λ e. omega arith) ∙ f.wet_left k p)
          (four_c v n a b c d l h ∙ ec);
      wet_right = below_more (λ (k : ℕ). get_or (four v n a b c d l h) (k + 72) (pos 0) ≡ cond (flag_of regs 0x198 k) (volume_of (of_voice regs k 2)) (pos 0)) n
          (λ k p. four_other v n a b c d l h (k + 72) (λ e. omega arith) (λ e. omega arith) (λ e. omega arith) (λ e. omega arith) ∙ f.wet_right k p)
          (four_d v n a b c d l h ∙ ed);
    }

-- x is the volume as the call has it, f the flag
pub gated_by : (regs : List ℕ) (n : ℕ) (eon : ℕ) {x z y : ℤ} {b : Bool} → Flags regs 0x198 eon → n < 24 → b ≡ bit n eon → y ≡ cond b x (pos 0) → x ≡ z → y ≡ cond (flag_of regs 0x198 n) z (pos 0)
gated_by regs n eon f h e p q = rw (p, e, f.each n h, q)

-- one more voice's share
more : (n : ℕ) {a b : ℤ} → In (n * 0x8000) (n * 0x8000) a → In 0x8000 0x8000 b → In ((n + 1) * 0x8000) ((n + 1) * 0x8000) (a +ℤ b)
more n i j = let s = add_in i j in record { top = omega arith; low = omega arith }

pub joined_in : (n : ℕ) (s t : Stereo ℤ) {r : Stereo ℤ} → r ≡ joined_of s t → SidesIn n s → SidesIn 1 t → SidesIn (n + 1) r
unfolding joined_of
joined_in n s t e i j = rw e (record { left = more n i.left j.left; right = more n i.right j.right })

fewer : (n : ℕ) {z : ℤ} → n < 24 → In (n * 0x8000) (n * 0x8000) z → In (23 * 0x8000) (23 * 0x8000) z
fewer n h i = record { top = omega arith; low = omega arith }

pub sides_few : (n : ℕ) (s : Stereo ℤ) → n < 24 → SidesIn n s → SidesIn 23 s
sides_few n s h i = record { left = fewer n h i.left; right = fewer n h i.right }

pub silent_in : SidesIn 0 silent
silent_in = record { left = zero_in; right = zero_in }
  where
    zero_in : In 0 0 (pos 0)
    zero_in = record { top = omega arith; low = omega arith }

pub sides_end : {n k : ℕ} {s : Stereo ℤ} → SidesIn n s → n ≤ k → k ≤ n → SidesIn k s
sides_end {n} {k} {s} i a b = let e : n ≡ k = omega arith in subst (λ (j : ℕ). SidesIn j s) e i

-- ---- the sums of the first n voices: d and w are those so far, h the shares of voice n, a its amplitude as the call has it

module _ (regs : List ℕ) (v hs : List ℤ) (n : ℕ) {a : ℤ} (f : Volumes regs v) (l : n < 24) (p : a ≡ get_or hs n (pos 0)) where
  pub mixed_dry : {d h r : Stereo ℤ} → d ≡ (mixed_of regs hs n).dry → h ≡ shares_of v n a → r ≡ joined_of d h → r ≡ (mixed_of regs hs (n + 1)).dry
  unfolding mixed_of added_of shares_of sides_of side_of
  mixed_dry e q j = rw (add-one n, j, e, q, f.left n l, f.right n l, p)

  pub mixed_wet : {w h r : Stereo ℤ} → w ≡ (mixed_of regs hs n).wet → h ≡ shares_of v (n + 48) a → r ≡ joined_of w h → r ≡ (mixed_of regs hs (n + 1)).wet
  unfolding mixed_of added_of shares_of sides_of side_of
  mixed_wet e q j =
      let k : n + 48 + 24 ≡ n + 72 = omega arith in
      rw (add-one n, j, e, q, k, f.wet_left n l, f.wet_right n l, gated_shares (flag_of regs 0x198 n) a (volume_of (of_voice regs n 0)) (volume_of (of_voice regs n 2)), p)

-- x, y and z are the amplitudes as they are kept
pub mixed_all : (regs : List ℕ) (hs : List ℤ) (n : ℕ) {d w : Stereo ℤ} {x y z : ℤ} → d ≡ (mixed_of regs hs n).dry → w ≡ (mixed_of regs hs n).wet → n ≤ 24 → 24 ≤ n
    → x ≡ get_or hs 23 (pos 0) → y ≡ get_or hs 1 (pos 0) → z ≡ get_or hs 3 (pos 0)
    → record { dry = d; wet = w; below = x; captured = record { first = y; third = z } } ≡ mixed_of regs hs 24
unfolding mixed_of added_of captured_of
mixed_all regs hs n {d} {w} e f l m x y z =
    let k : n ≡ 24 = omega arith in
    let e' : d ≡ (mixed_of regs hs 24).dry = subst (λ (j : ℕ). d ≡ (mixed_of regs hs j).dry) k e in
    let f' : w ≡ (mixed_of regs hs 24).wet = subst (λ (j : ℕ). w ≡ (mixed_of regs hs j).wet) k f in
    rw (e', f', x, y, z)
