-- Halfwords whose marks lie in one byte are marked, and tested, all at once. Assumes nothing.
use mathlib.Core.Path.{◌≡◌, refl, sym, ap, ap₂, ◌∙◌}
use mathlib.Core.Bool.{Bool, true, false, ◌&&◌}
use mathlib.Core.List.{List}
use Prim.Native.Nat.{ℕ, zero, suc, ◌+◌, ◌-◌, ◌*◌, ◌/◌, ◌%◌, ◌^◌, ◌≤◌, ◌<◌, max}
use native.Mathlib.Decide.{ℕ_discrete}
use native.Mathlib.Nat.{max-le, zero-max, max-zero, suc-max-suc, mod-lt, mod-one, mul-div_cancel, pow-suc, zero-lt-suc}
use native.Mathlib.Numerals.{one-add}
use native.Mathlib.Omega.{arith}
use borrow.Author.Tests.{eq-eqb, ne_eqb}
use lib.Arith.{bin_ind}
use lib.Bits.{bit_and, bit_or, or_step, or_zero_r, or_shr, or_shifted_r, and_high}
use lib.Dec.{eqb}
use lib.ListN.{length, get_or, set}
use lib.Pow as pow
use lib.Pow.{pow_pos, pow_mono, shr-shr, split, mod-mod-pow, high_ones}
use lib.Seq.{set-get_or, set-set, get_or-set_same}
use Rattle.fixed.specs.Bits.{field}
use Rattle.fixed.specs.Tests.{all_below}
use Rattle.fixed.proofs.Bits.{one_shl}
use Rattle.soundram.specs.Memory.{marked, mark}
use Rattle.soundram.proofs.Halfwords.{mark_or}
use Rattle.transfer.specs.Whole.{marked_from, all_marked}

-- ---- m bits from bit k on, as the code makes them

module _ (k m : ℕ) (l : k + m ≤ 8) where
  pub bits_are : 1 * 2 ^ (m + k) % 0x100000000 - 1 * 2 ^ k % 0x100000000 ≡ 2 ^ (m + k) - 2 ^ k
  bits_are = rw (one_shl 32 (m + k) (omega arith), one_shl 32 k (omega arith))

  pub bits_order : 1 * 2 ^ k % 0x100000000 ≤ 1 * 2 ^ (m + k) % 0x100000000
  bits_order = rw (one_shl 32 (m + k) (omega arith), one_shl 32 k (omega arith)) (pow_mono (omega arith))

  pub bits_fit : 1 * 2 ^ (m + k) % 0x100000000 - 1 * 2 ^ k % 0x100000000 < 256
  bits_fit =
      let most : 2 ^ (m + k) ≤ 2 ^ 8 = pow_mono {j = 8} (omega arith) in
      let some = pow_pos k in
      rw bits_are (omega arith)

-- ---- the marks of one byte

max_assoc : (a b c : ℕ) → max (max a b) c ≡ max a (max b c)
max_assoc zero b c = rw (zero-max b, zero-max (max b c))
max_assoc (suc a) zero c = rw (max-zero (suc a), zero-max c)
max_assoc (suc a) (suc b) zero = rw (max-zero (max (suc a) (suc b)), max-zero (suc b))
max_assoc (suc a) (suc b) (suc c) = rw (suc-max-suc a b, suc-max-suc b c, suc-max-suc (max a b) c, suc-max-suc a (max b c), max_assoc a b c)

or_low : (a b : ℕ) → bit_or a b % 2 ≡ max (a % 2) (b % 2)
or_low a b =
    let s = or_step a b in
    let l : max (a % 2) (b % 2) ≤ 1 = max-le (omega arith) (omega arith) in
    omega arith

or_assoc : (a b c : ℕ) → bit_or (bit_or a b) c ≡ bit_or a (bit_or b c)
or_assoc a =
    bin_ind (λ (n : ℕ). (b c : ℕ) → bit_or (bit_or n b) c ≡ bit_or n (bit_or b c)) (λ b c. refl)
    (λ n ih b c.
    or_step (bit_or n b) c
    ∙ ap₂ (λ (x y : ℕ). x * 2 + y)
    (ap (λ (x : ℕ). bit_or x (c / 2)) (or_shr n b 1) ∙ ih (b / 2) (c / 2) ∙ ap (λ (x : ℕ). bit_or (n / 2) x) (sym (or_shr b c 1)))
    (ap (λ (x : ℕ). max x (c % 2)) (or_low n b) ∙ max_assoc (n % 2) (b % 2) (c % 2) ∙ ap (λ (x : ℕ). max (n % 2) x) (sym (or_low b c)))
    ∙ sym (or_step n (bit_or b c)))
    a

-- one bit more above m bits from bit k on
or_more : (b k m : ℕ) → bit_or (bit_or b (2 ^ (m + k) - 2 ^ k)) (2 ^ (m + k)) ≡ bit_or b (2 ^ suc (m + k) - 2 ^ k)
or_more b k m =
    let x : ℕ = 2 ^ (m + k) - 2 ^ k in
    let p : 2 ^ k ≤ 2 ^ (m + k) = pow_mono (omega arith) in
    let z = pow_pos k in
    let s = pow-suc 2 (m + k) in
    let one : 2 ^ (m + k) ≡ 1 * 2 ^ (m + k) = omega arith in
    let top = or_shifted_r 1 (m + k) x (omega arith) in
    or_assoc b x (2 ^ (m + k)) ∙ ap (λ (y : ℕ). bit_or b y) (ap (λ (y : ℕ). bit_or x y) one ∙ top ∙ omega arith)

module _ (marks : List ℕ) (h : ℕ) (here : h / 8 < length marks) where
  pub marked_run : (m : ℕ) → h % 8 + m ≤ 8 → set marks (h / 8) (bit_or (get_or marks (h / 8) 0) (2 ^ (m + h % 8) - 2 ^ (h % 8))) ≡ marked_from marks h m
  unfolding marked_from
  marked_run zero l =
      let z : 0 + h % 8 ≡ h % 8 = omega arith in
      let n : 2 ^ (h % 8) - 2 ^ (h % 8) ≡ 0 = omega arith in
      ap (λ (x : ℕ). set marks (h / 8) x) (ap (λ (x : ℕ). bit_or (get_or marks (h / 8) 0) x) (ap (λ (x : ℕ). 2 ^ x - 2 ^ (h % 8)) z ∙ n) ∙ or_zero_r (get_or marks (h / 8) 0))
      ∙ set-get_or marks (h / 8) 0
  marked_run (suc m) l =
      let k : ℕ = h % 8 in
      let b : ℕ = get_or marks (h / 8) 0 in
      let v : ℕ = bit_or b (2 ^ (m + k) - 2 ^ k) in
      let before : List ℕ = set marks (h / 8) v in
      let s : suc (m + k) ≡ suc m + k = omega arith in
      let byte : h / 8 ≡ (h + m) / 8 = omega arith in
      let place : m + k ≡ (h + m) % 8 = omega arith in
      ap (λ (x : ℕ). set marks (h / 8) (bit_or b (2 ^ x - 2 ^ k))) (sym s)
      ∙ ap (λ (x : ℕ). set marks (h / 8) x) (sym (or_more b k m))
      ∙ sym (set-set marks (h / 8) v _)
      ∙ ap (λ (x : ℕ). set before (h / 8) (bit_or x (2 ^ (m + k)))) (sym (get_or-set_same marks (h / 8) v 0 here))
      ∙ ap₂ (λ (x y : ℕ). set before x (bit_or (get_or before x 0) (2 ^ y))) byte place
      ∙ mark_or before (h + m)
      ∙ ap (λ (xs : List ℕ). mark xs (h + m)) (marked_run m (omega arith))

-- ---- testing the marks of one byte

ones_more : (q r p : ℕ) → q < 2 → r < p → eqb (q * p + r) (p * 2 - 1) ≡ (eqb r (p - 1) && eqb q 1)
ones_more zero r p l g = rw (ne_eqb (0 * p + r) (p * 2 - 1) (λ e. omega arith)) (by (eqb r (p - 1)))
  where
    by : (b : Bool) → false ≡ (b && false)
    by true = refl
    by false = refl
ones_more (suc zero) r p l g =
    elim (ℕ_discrete r (p - 1)) [
      | yes e ↦ rw (eq-eqb r (p - 1) e, eq-eqb (1 * p + r) (p * 2 - 1) (omega arith))
      | no e ↦ rw (ne_eqb r (p - 1) e, ne_eqb (1 * p + r) (p * 2 - 1) (λ f. e (omega arith)))
    ]
ones_more (suc (suc q)) r p l g = absurd (omega arith)

-- the lowest m digits of n are ones
ones_are : (n m : ℕ) → eqb (n % 2 ^ suc m) (2 ^ suc m - 1) ≡ (eqb (n % 2 ^ m) (2 ^ m - 1) && eqb (n / 2 ^ m % 2) 1)
ones_are n m =
    let e : n / 2 ^ m % 2 * 2 ^ m + n % 2 ^ m ≡ n % 2 ^ (1 + m) =
    ap₂ (λ (x y : ℕ). x * 2 ^ m + y) (sym (pow.field n 1 m)) (sym (mod-mod-pow n 1 m)) ∙ split (n % 2 ^ (1 + m)) m in
    ap₂ (λ (x y : ℕ). eqb x (y - 1)) (ap (λ (x : ℕ). n % 2 ^ x) (sym (one-add m)) ∙ sym e) (pow-suc 2 m)
    ∙ ones_more (n / 2 ^ m % 2) (n % 2 ^ m) (2 ^ m) (mod-lt (n / 2 ^ m) (zero-lt-suc 1)) (mod-lt n (pow_pos m))

eqb_times : (x y d : ℕ) → 0 < d → eqb (x * d) (y * d) ≡ eqb x y
eqb_times x y d l =
    elim (ℕ_discrete x y) [
      | yes e ↦ rw (eq-eqb x y e, eq-eqb (x * d) (y * d) (ap (λ (z : ℕ). z * d) e))
      | no e ↦ rw (ne_eqb x y e, ne_eqb (x * d) (y * d) (λ p. e (sym (mul-div_cancel x l) ∙ ap (λ (z : ℕ). z / d) p ∙ mul-div_cancel y l)))
    ]

module _ (marks : List ℕ) (h : ℕ) where
  ones_marked : (m : ℕ) → h % 8 + m ≤ 8 → eqb (field (h % 8) m (get_or marks (h / 8) 0)) (2 ^ m - 1) ≡ all_marked marks h m
  unfolding all_below marked
  ones_marked zero l = rw (mod-one (get_or marks (h / 8) 0 / 2 ^ (h % 8)))
  ones_marked (suc m) l =
      let k : ℕ = h % 8 in
      let b : ℕ = get_or marks (h / 8) 0 in
      let byte : h / 8 ≡ (h + m) / 8 = omega arith in
      let place : k + m ≡ (h + m) % 8 = omega arith in
      ones_are (b / 2 ^ k) m
      ∙ ap₂ ◌&&◌ (ones_marked m (omega arith))
      (ap (λ (x : ℕ). eqb (x % 2) 1) (shr-shr b k m) ∙ ap₂ (λ (x y : ℕ). eqb (get_or marks x 0 / 2 ^ y % 2) 1) byte place)

  pub tested_run : (m : ℕ) → h % 8 + m ≤ 8
      → eqb (bit_and (get_or marks (h / 8) 0) (2 ^ (m + h % 8) - 2 ^ (h % 8))) (2 ^ (m + h % 8) - 2 ^ (h % 8)) ≡ all_marked marks h m
  tested_run m l =
      ap₂ eqb (and_high (get_or marks (h / 8) 0) m (h % 8)) (high_ones m (h % 8))
      ∙ eqb_times _ _ (2 ^ (h % 8)) (pow_pos (h % 8))
      ∙ ones_marked m l
