-- A whole number of at most 24 digits over 8000h is exact as a 32-bit float, and the quotient of the two floats is that number.
-- Assumes nothing.
use mathlib.Core.Path.{◌≡◌, refl, sym, ap, ◌∙◌}
use mathlib.Core.Bool.{Bool, true, false}
use Prim.Native.Nat.{ℕ, suc, ◌*◌, ◌^◌, ◌≤◌, ◌<◌}
use native.Mathlib.Nat.{mul_assoc, mul_comm, mul-pos, mul-lt-mul_of_pos_right, lt_trans, le_trans}
use native.Mathlib.Omega.{arith}
use lib.Dec.{lit<, lit≤}
use lib.Pow.{pow_pos}
use lib.IntN.{ℤ, pos, negsuc, nat_abs}
use lib.Ieee.{Float, nan, inf, fin, binary32, unlike, up, down, round, div, of_int, of_bits}
use lib.Ieee.Exact.{HasValue, round_exact}
use lib.Ieee.Scale.{round_same}
use lib.Ieee.Back.{round_whole}
use Rattle.stereo.specs.Float.{negative, float_of, Exactly}

down_pos : (e : ℤ) → 0 < down e
down_pos (pos k) = lit< tt
down_pos (negsuc k) = pow_pos (suc k)

unlike_false : (s : Bool) → unlike s false ≡ s
unlike_false true = refl
unlike_false false = refl

pub float_exact : (z : ℤ) → nat_abs z ≤ 0x8000 → Exactly z (float_of z)
unfolding float_of
float_exact z h =
    round_exact binary32 (negative z) (nat_abs z) 0x8000 (nat_abs z) 134 (lit< tt) (omega arith)
    (lt_trans (mul-lt-mul_of_pos_right (bound (nat_abs z) h) (pow_pos 134)) (lit< tt)) (sym (mul_assoc (nat_abs z) (2 ^ 134) 0x8000))
  where
    bound : (n : ℕ) → n ≤ 0x8000 → n < 2 ^ 24
    bound n h = omega arith

cross : (a n d : ℕ) → a * 1 ≡ n * d → a * 1 * 0x8000 ≡ n * (1 * 0x8000 * d)
cross a n d e = ap (λ (x : ℕ). x * 0x8000) e ∙ mul_assoc n d 0x8000 ∙ ap (λ (x : ℕ). n * x) (mul_comm d 0x8000)

-- a float of value n, with the sign s, divided by 8000h
quotient : (x : Float) (s : Bool) (n : ℕ) → HasValue x s n 1 → div binary32 x (fin false 1 (pos 15)) ≡ round binary32 s n 0x8000
unfolding div
quotient nan s n v = absurd v
quotient (inf t) s n v = absurd v
quotient (fin t m e) s n v =
    ap (λ (b : Bool). round binary32 b (m * up e * 1) (1 * 0x8000 * down e)) (unlike_false t ∙ v.0)
    ∙ round_same binary32 s (m * up e * 1) (1 * 0x8000 * down e) n 0x8000 (mul-pos (lit< tt) (down_pos e)) (lit< tt) (cross (m * up e) n (down e) v.1)

-- 32768.0 has the bits 47000000h
pub quotient_is : (z : ℤ) → nat_abs z ≤ 0x8000 → div binary32 (of_int binary32 z) (of_bits binary32 0x47000000) ≡ float_of z
unfolding of_int of_bits float_of
quotient_is (pos n) h = quotient (round binary32 false n 1) false n (round_whole binary32 false n (le_trans h (lit≤ tt)))
quotient_is (negsuc n) h = quotient (round binary32 true (suc n) 1) true (suc n) (round_whole binary32 true (suc n) (le_trans h (lit≤ tt)))
