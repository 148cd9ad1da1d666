-- The taps counted under their mask, and document 01's four bits xored, give the same parity (M-102). Assumes nothing.
use mathlib.Core.Path.{◌≡◌, ap, ap₂, sym, ◌∙◌}
use mathlib.Core.Bool.{cond}
use Prim.Native.Nat.{ℕ, zero, suc, ◌+◌, ◌-◌, ◌/◌, ◌%◌, ◌^◌, ◌<◌, min}
use native.Mathlib.Nat.{pow-suc, div-one, min-zero, min-eq_left}
use native.Mathlib.Omega.{arith}
use lib.Arith.{lt-one}
use lib.Bits.{bit_and, and_step, and_zero_r}
use lib.Count.{ones, ones_step}
use lib.Dec.{eqb, lit<}
use lib.Pow.{shr-shr}
use Rattle.fixed.specs.Bits.{field, bit}
use Rattle.noise.specs.Noise.{xor, xored_of, taps, tap_count_of, parity_of}

-- ---- the count of ones under any mask

-- the bits of x where the mask has a one, added up over the n bits from bit k on
abbrev pub bits_under : ℕ → ℕ → ℕ → ℕ → ℕ
bits_under zero k mask x = 0
bits_under (suc n) k mask x = cond (bit k mask) (field k 1 x) 0 + bits_under n (k + 1) mask x

-- one digit d under the mask's digit m
digit_under : (d m : ℕ) → d < 2 → m < 2 → min d m ≡ cond (eqb m 1) d 0
digit_under d zero p q = min-zero d
digit_under d (suc zero) p q = min-eq_left (omega arith)
digit_under d (suc (suc m)) p q = omega arith

-- the lowest digit, and the count of the others
ones_and : (x mask : ℕ) → ones (bit_and x mask) ≡ cond (eqb (mask % 2) 1) (x % 2) 0 + ones (bit_and (x / 2) (mask / 2))
ones_and x mask =
    let s = and_step x mask in
    let d = digit_under (x % 2) (mask % 2) (omega arith) (omega arith) in
    let lowest : bit_and x mask % 2 ≡ min (x % 2) (mask % 2) = omega arith in
    let others : bit_and x mask / 2 ≡ bit_and (x / 2) (mask / 2) = omega arith in
    ones_step (bit_and x mask) ∙ ap₂ (λ (a b : ℕ). a + ones b) (lowest ∙ d) others

ones_from : (n k mask x : ℕ) → mask / 2 ^ k < 2 ^ n → ones (bit_and (x / 2 ^ k) (mask / 2 ^ k)) ≡ bits_under n k mask x
unfolding ones
ones_from zero k mask x h = ap (λ (m : ℕ). ones (bit_and (x / 2 ^ k) m)) (lt-one h) ∙ ap ones (and_zero_r (x / 2 ^ k))
ones_from (suc n) k mask x h =
    let e = shr-shr mask k 1 in
    let p = pow-suc 2 n in
    ones_and (x / 2 ^ k) (mask / 2 ^ k)
    ∙ ap (λ (m : ℕ). cond (bit k mask) (field k 1 x) 0 + m)
    (ap₂ (λ (a b : ℕ). ones (bit_and a b)) (shr-shr x k 1) e ∙ ones_from n (k + 1) mask x (omega arith))

-- for every x and every mask of n bits
pub ones_under : (n mask x : ℕ) → mask < 2 ^ n → ones (bit_and x mask) ≡ bits_under n 0 mask x
ones_under n mask x h =
    ap₂ (λ (a b : ℕ). ones (bit_and a b)) (sym (div-one x)) (sym (div-one mask)) ∙ ones_from n 0 mask x (rw (div-one mask) h)

-- ---- under the taps

taps_sum : (level : ℕ) → tap_count_of level ≡ field 15 1 level + field 12 1 level + field 11 1 level + field 10 1 level
taps_sum level = ones_under 16 taps level (lit< tt) ∙ omega arith

xor_sum : (a b c d : ℕ) → (a + b + c + d) % 2 ≡ xor (xor (xor a b) c) d
xor_sum a b c d = omega arith

count_xored : (level : ℕ) → tap_count_of level % 2 ≡ xored_of level
unfolding xored_of
count_xored level = ap (λ (n : ℕ). n % 2) (taps_sum level) ∙ xor_sum (field 15 1 level) (field 12 1 level) (field 11 1 level) (field 10 1 level)

-- "for every level that the count is odd exactly when 01's four bits xored give 1"; it holds for every number
pub odd_exactly : (level : ℕ) → (tap_count_of level % 2 ≡ 1 → xored_of level ≡ 1) × (xored_of level ≡ 1 → tap_count_of level % 2 ≡ 1)
odd_exactly level = let e = count_xored level in (λ odd. sym e ∙ odd, λ one. e ∙ one)

-- "no answer changes": the bit that is shifted in is still 01's "(bits 15, 12, 11, 10 xored, inverted)"
pub parity_xored : (level : ℕ) → parity_of level ≡ 1 - xored_of level
unfolding parity_of
parity_xored level = let e = count_xored level in omega arith
