-- The mask of undocumented bits beside document 02's list of them (M-103), in 000's numbering. Assumes nothing.
use mathlib.Core.Path.{◌≡◌, refl, sym, ap, ◌∙◌}
use mathlib.Core.Bool.{Bool, true, false, cond, ◌&&◌, ◌||◌, not}
use Prim.Native.Nat.{ℕ, zero, suc, ◌+◌, ◌*◌, ◌/◌, ◌%◌, ◌^◌, ◌<◌, min}
use native.Mathlib.Nat.{pow-suc, div-one, zero-div, min-zero, zero-min, min-eq_left}
use native.Mathlib.Omega.{arith}
use lib.Arith.{lt-one}
use lib.Bits.{bit_and, and_step, and_shr, and_zero_l}
use lib.Dec.{T, eqb, leb}
use lib.Pow.{shr-shr}
use borrow.Author.Tests.{eqb-true, eqb-false, eq-eqb, ne_eqb, not-false}
use Rattle.fixed.specs.Bits.{field, bit}
use Rattle.fixed.proofs.Table.{below, below_at}
use Rattle.registers.specs.Offsets.{between, is_voice, undocumented_bits, undocumented}

-- ---- each bit

-- 000 counts the bits of ADSR and of the flags as those of 32-bit registers. By the offset of such a register's lower half: "bit 29 of ADSR"; "bits 15-8 of the
-- upper flag registers", 000's 24-31; "1ACh bits 15-4 and 0"
abbrev pub unused_bit : ℕ → ℕ → Bool
unused_bit lower k =
    (is_voice lower && (eqb (lower % 16) 8 && eqb k 29)) || ((between 0x188 0x19C lower && leb 24 k) || (eqb lower 0x1AC && (between 4 15 k || eqb k 0)))

abbrev same : Bool → Bool → Bool
same a b = cond a b (not b)

same_is : (a b : Bool) → T (same a b) → a ≡ b
same_is true true t = refl
same_is true false t = absurd t
same_is false true t = absurd t
same_is false false t = refl

-- register h is one half of a 32-bit register
abbrev as_listed : ℕ → ℕ → Bool
as_listed h k = same (bit k (undocumented_bits (2 * h))) (unused_bit (h / 2 * 4) (h % 2 * 16 + k))

-- one test of the 256 registers and their 16 bits
pub mask_bits : (h k : ℕ) → h < 256 → k < 16 → bit k (undocumented_bits (2 * h)) ≡ unused_bit (h / 2 * 4) (h % 2 * 16 + k)
unfolding undocumented_bits
mask_bits h k p q = same_is _ _ (below_at 16 (as_listed h) (below_at 256 (λ n. below 16 (as_listed n)) tt h p) k q)

-- ---- "a nonzero bit there"

-- no bit is set in both a and b
abbrev pub Apart : ℕ → ℕ → Type 0
Apart a b = (k : ℕ) → bit k b ≡ true → bit k a ≡ false

-- one digit of each number
least_zero : (x y : ℕ) → x < 2 → y < 2 → (eqb y 1 ≡ true → eqb x 1 ≡ false) → min x y ≡ 0
least_zero zero y p q f = zero-min y
least_zero (suc x) zero p q f = min-zero (suc x)
least_zero (suc x) (suc y) p q f = absurd (eqb-false (suc x) 1 (f (eq-eqb (suc y) 1 (omega arith))) (omega arith))

and_apart : (a b : ℕ) → bit_and a b ≡ 0 → Apart a b
and_apart a b z k t =
    let o = eqb-true (field k 1 b) 1 t in
    let s = and_step (a / 2 ^ k) (b / 2 ^ k) in
    let e = sym (and_shr a b k) ∙ ap (λ (x : ℕ). x / 2 ^ k) z ∙ zero-div (2 ^ k) in
    let m : min (field k 1 a) (field k 1 b) ≡ field k 1 a = min-eq_left (omega arith) in
    ne_eqb (field k 1 a) 1 (λ q. omega arith)

apart_and : (n k a b : ℕ) → a / 2 ^ k < 2 ^ n → Apart a b → bit_and (a / 2 ^ k) (b / 2 ^ k) ≡ 0
apart_and zero k a b h f = ap (λ (x : ℕ). bit_and x (b / 2 ^ k)) (lt-one h) ∙ and_zero_l (b / 2 ^ k)
apart_and (suc n) k a b h f =
    let p = pow-suc 2 n in
    let e = shr-shr a k 1 in
    let g = shr-shr b k 1 in
    let r = apart_and n (k + 1) a b (omega arith) f in
    let m = least_zero (field k 1 a) (field k 1 b) (omega arith) (omega arith) (f k) in
    and_step (a / 2 ^ k) (b / 2 ^ k) ∙ rw (e, g, r, m)

-- the test of number 11 fails exactly when every undocumented bit of the value is zero
pub undocumented_exactly : (offset value : ℕ) → value < 0x10000
    → (undocumented offset value ≡ false → Apart value (undocumented_bits offset)) × (Apart value (undocumented_bits offset) → undocumented offset value ≡ false)
unfolding undocumented
undocumented_exactly offset value h = (
  λ e. and_apart value (undocumented_bits offset) (eqb-true _ _ (not-false _ e)),
  λ f. ap not (eq-eqb _ _ (whole ∙ apart_and 16 0 value (undocumented_bits offset) (rw (div-one value) h) f)),
)
  where
    whole : bit_and value (undocumented_bits offset) ≡ bit_and (value / 2 ^ 0) (undocumented_bits offset / 2 ^ 0)
    whole = rw (div-one value, div-one (undocumented_bits offset))
