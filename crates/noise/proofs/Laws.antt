-- The noise generator's definitions at each outcome of their tests. Assumes nothing.
use mathlib.Core.Path.{◌≡◌, refl, ap, ◌∙◌}
use Prim.Native.Nat.{ℕ, zero, suc, ◌+◌, ◌-◌, ◌*◌, ◌/◌, ◌%◌, ◌^◌, ◌≤◌, ◌<◌}
use native.Mathlib.Nat.{lt_of_le_of_lt}
use native.Mathlib.Omega.{arith}
use lib.Bits.{bit_and, and_le_l}
use lib.Count.{ones, ones-le}
use lib.IntN.{ℤ, pos, negsuc, ◌+ℤ◌, ◌-ℤ◌}
use lib.Dec.{leb, leb→le}
use borrow.Author.Tests.{le-ltb, eq-eqb, ne_eqb}
use Rattle.fixed.specs.Range.{dn}
use Rattle.fixed.specs.Bits.{field}
use Rattle.fixed.proofs.Parts.{add_is, sub_parts, eq_parts, within}
use Rattle.fixed.proofs.Table.{below_at}
use Rattle.noise.specs.Noise.{parity_of, shifted_of, reload_of, step_of, refilled, ticked_of, written_of}
use Rattle.noise.specs.declared.Noise.{Noise}

-- ---- the shift register

-- a count and a small n fit 32 bits together: 16 bits have at most 16 ones under any mask
pub count_fits : (level mask n : ℕ) → level < 0x10000 → n < 0x10000 → ones (bit_and level mask) + n < 0x100000000
count_fits level mask n h k = let m = ones-le 16 (bit_and level mask) (lt_of_le_of_lt (and_le_l level mask) h) in omega arith

pub parity_fits : (level p : ℕ) → p ≡ parity_of level → level % 0x8000 * 2 + p < 0x10000
unfolding parity_of
parity_fits level p e = omega arith

pub shift_sum : (level p : ℕ) → p ≡ parity_of level → level % 0x8000 * 2 + p ≡ shifted_of level
unfolding shifted_of
shift_sum level p e = omega arith

-- ---- the timer

-- 20000h shifted right by 0 to 15, tested at each
pub reload_least : (spucnt : ℕ) → 4 ≤ reload_of spucnt
unfolding reload_of
reload_least spucnt = leb→le 4 _ (below_at 16 (λ k. leb 4 (0x20000 / 2 ^ k)) tt (field 10 4 spucnt) (omega arith))

pub reload_most : (spucnt : ℕ) → reload_of spucnt ≤ 0x20000
unfolding reload_of
reload_most spucnt = leb→le _ 0x20000 (below_at 16 (λ k. leb (0x20000 / 2 ^ k) 0x20000) tt (field 10 4 spucnt) (omega arith))

-- twice the reload covers any step
pub reload_twice : (spucnt timer r : ℕ) → r ≡ reload_of spucnt → step_of spucnt - timer ≤ r + r
reload_twice spucnt timer r e = let l = reload_least spucnt in omega arith

-- r is added once, and twice; k times are enough from -k on
pub once : (k r b : ℕ) → suc b ≤ r → refilled (suc (suc k)) r (negsuc b) ≡ pos (r - suc b)
unfolding refilled
once k r b h =
    let a = add_is (negsuc b) (pos r) in
    let e : negsuc b +ℤ pos r ≡ pos (r - suc b) = eq_parts _ _ (omega arith) in
    rw (e, le-ltb (r - suc b) 0 (omega arith))

turn : (k r b : ℕ) → refilled (suc k) r (negsuc b) ≡ refilled k r (negsuc b +ℤ pos r)
unfolding refilled
turn k r b = refl

pub twice : (k r b : ℕ) → r < suc b → suc b ≤ r + r → refilled (suc (suc (suc k))) r (negsuc b) ≡ pos (r + r - suc b)
twice k r b h g =
    let a = add_is (negsuc b) (pos r) in
    let e : negsuc b +ℤ pos r ≡ negsuc (b - r) = eq_parts _ _ (omega arith) in
    turn (suc (suc k)) r b ∙ ap (refilled (suc (suc k)) r) e ∙ once k r (b - r) (omega arith) ∙ ap pos (omega arith)

pub refilled_done : (k r : ℕ) (z : ℤ) → 1 ≤ r → dn z ≤ k → dn (refilled k r z) ≡ 0
unfolding refilled
refilled_done zero r z p q = omega arith
refilled_done (suc k) r (pos n) p q = rw (le-ltb n 0 (omega arith))
refilled_done (suc k) r (negsuc n) p q = let a = add_is (negsuc n) (pos r) in refilled_done k r (negsuc n +ℤ pos r) p (within (negsuc n +ℤ pos r) {l = k} {h = r} (omega arith) (omega arith)).low

-- ---- one tick, as the code finds it: l and r are what the shift register and the reload give

module _ (n : Noise) (spucnt : ℕ) where
  pub ticked_waits : step_of spucnt ≤ n.timer → record { level = n.level; timer = n.timer - step_of spucnt } ≡ ticked_of n spucnt
  unfolding ticked_of
  ticked_waits h =
      let s = sub_parts (pos n.timer) (pos (step_of spucnt)) in
      let e : pos n.timer -ℤ pos (step_of spucnt) ≡ pos (n.timer - step_of spucnt) = eq_parts _ _ (omega arith) in
      rw (e, le-ltb (n.timer - step_of spucnt) 0 (omega arith))

  clocks : (m : ℕ) → n.timer < step_of spucnt → refilled 7 (reload_of spucnt) (negsuc (step_of spucnt - n.timer - 1)) ≡ pos m
      → record { level = shifted_of n.level; timer = m } ≡ ticked_of n spucnt
  unfolding ticked_of
  clocks m h p =
      let s = sub_parts (pos n.timer) (pos (step_of spucnt)) in
      let e : pos n.timer -ℤ pos (step_of spucnt) ≡ negsuc (step_of spucnt - n.timer - 1) = eq_parts _ _ (omega arith) in
      rw (e, p)

  module _ (l r : ℕ) (x : l ≡ shifted_of n.level) (y : r ≡ reload_of spucnt) (h : n.timer < step_of spucnt) where
    pub ticked_once : step_of spucnt - n.timer ≤ r → record { level = l; timer = r - (step_of spucnt - n.timer) } ≡ ticked_of n spucnt
    ticked_once g = rw (x, y) (clocks _ h (once 5 (reload_of spucnt) (step_of spucnt - n.timer - 1) (omega arith) ∙ ap pos (omega arith)))

    pub ticked_twice : r < step_of spucnt - n.timer → record { level = l; timer = r + r - (step_of spucnt - n.timer) } ≡ ticked_of n spucnt
    ticked_twice g =
        let f = reload_least spucnt in
        rw (x, y) (clocks _ h (twice 4 (reload_of spucnt) (step_of spucnt - n.timer - 1) (omega arith) (omega arith) ∙ ap pos (omega arith)))

-- ---- a write to SPUCNT

module _ (n : Noise) (old new : ℕ) where
  pub written_same : field 10 4 old ≡ field 10 4 new → n ≡ written_of n old new
  unfolding written_of
  written_same e = rw (eq-eqb (field 10 4 old) (field 10 4 new) e)

  pub written_other : (r : ℕ) → r ≡ reload_of new → (field 10 4 old ≡ field 10 4 new → ⊥) → record { level = n.level; timer = r } ≡ written_of n old new
  unfolding written_of
  written_other r y e = rw (y, ne_eqb (field 10 4 old) (field 10 4 new) e)
