-- A pair of registers as one number. Assumes nothing.
use mathlib.Core.Path.{◌≡◌, sym, ap, ◌∙◌}
use mathlib.Core.List.{List}
use Prim.Native.Nat.{ℕ, ◌+◌, ◌-◌, ◌*◌, ◌/◌, ◌%◌, ◌^◌, ◌<◌}
use native.Mathlib.Omega.{arith}
use native.Mathlib.Nat.{add-mul-div_left, add-mul-mod_self_right, mul_assoc, mul_left_comm}
use native.Mathlib.Decide.{dec_lt}
use lib.Dec.{eqb}
use lib.ListN.{get_or}
use lib.Pow.{pow-add, pow_pos, shr-shr}
use Rattle.fixed.specs.Bits.{bit, field}
use Rattle.registers.specs.Map.{register_at, flag_of, Flags}

low_bit : (low high j d : ℕ) → 15 ≡ j + d → field j 1 (low + high * 0x10000) ≡ field j 1 low
low_bit low high j d e =
    let p : 0x10000 ≡ 2 ^ j * (2 ^ d * 2) = ap (λ (k : ℕ). 2 ^ k * 2) e ∙ ap (λ (k : ℕ). k * 2) (pow-add 2 j d) ∙ mul_assoc (2 ^ j) (2 ^ d) 2 in
    rw (p, mul_left_comm high (2 ^ j) (2 ^ d * 2), add-mul-div_left low (high * (2 ^ d * 2)) (pow_pos j), ← mul_assoc high (2 ^ d) 2, add-mul-mod_self_right)

high_bit : (low high k : ℕ) → low < 0x10000 → field (16 + k) 1 (low + high * 0x10000) ≡ field k 1 high
high_bit low high k h =
    let e : (low + high * 0x10000) / 0x10000 ≡ high = omega arith in
    ap (λ (x : ℕ). x % 2) (sym (shr-shr (low + high * 0x10000) 16 k) ∙ ap (λ (x : ℕ). x / 2 ^ k) e)

pub pair_flags : (regs : List ℕ) (offset : ℕ) {low high : ℕ} → low ≡ register_at regs offset → high ≡ register_at regs (offset + 2) → low < 0x10000
    → Flags regs offset (low + high * 0x10000)
unfolding flag_of register_at
pair_flags regs offset {low} {high} p q l = record { each = λ n h. by n h (dec_lt n 16) }
  where
    by : (n : ℕ) → n < 24 → Dec (n < 16) → bit n (low + high * 0x10000) ≡ bit (n % 16) (get_or regs (offset / 2 + n / 16) 0)
    by n h (yes t) =
        let e : n % 16 ≡ n = omega arith in
        let f : offset / 2 + n / 16 ≡ offset / 2 = omega arith in
        let g : 15 ≡ n + (15 - n) = omega arith in
        rw (e, f, ← p, low_bit low high n (15 - n) g)
    by n h (no t) =
        let e : n % 16 ≡ n - 16 = omega arith in
        let f : offset / 2 + n / 16 ≡ (offset + 2) / 2 = omega arith in
        let g : n ≡ 16 + (n - 16) = omega arith in
        ap (λ (k : ℕ). bit k (low + high * 0x10000)) g ∙ ap (λ (x : ℕ). eqb x 1) (high_bit low high (n - 16) l) ∙ rw (e, f, ← q)
