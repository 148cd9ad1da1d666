-- How far the level moves in a step. Assumes nothing.
use mathlib.Core.Path.{◌≡◌, refl}
use mathlib.Core.Bool.{Bool, true, false, ◌&&◌}
use Prim.Native.Nat.{ℕ, ◌-◌, ◌^◌, ◌≤◌, zero-le}
use native.Mathlib.Omega.{arith}
use lib.Pow.{pow_mono}
use lib.IntN.{ℤ, pos, ◌*ℤ◌}
use Rattle.fixed.specs.Range.{In}
use Rattle.fixed.specs.Arithmetic.{product_of}
use Rattle.fixed.proofs.Number.{wide, mul_in, product_in}
use Rattle.envelope.specs.declared.Rate.{Rate}
use Rattle.envelope.specs.Adsr.{step_of}

pub power_in : (shift : ℕ) → In 0 2048 (pos (2 ^ (11 - shift)))
power_in shift = record { top = pow_mono {j = 11} (omega arith); low = zero-le }

-- the step before it is scaled by the level
abbrev pub full_of : Rate → ℤ
full_of r = r.value *ℤ pos (2 ^ (11 - r.shift))

full_in : (r : Rate) → In 8 7 r.value → In 0x4000 0x3800 (full_of r)
full_in r i = mul_in i (power_in r.shift)

module _ (r : Rate) (level : ℕ) where
  pub step_scaled : (r.exponential && r.falling) ≡ true → product_of (full_of r) (pos level) ≡ step_of r level
  unfolding step_of
  step_scaled t = rw t

  pub step_plain : (r.exponential && r.falling) ≡ false → full_of r ≡ step_of r level
  unfolding step_of
  step_plain t = rw t

  pub step_in : In 8 7 r.value → level ≤ 0xFFFF → In 0x8000 0x7000 (step_of r level)
  step_in i h = by (r.exponential && r.falling) refl
    where
      by : (b : Bool) → (r.exponential && r.falling) ≡ b → In 0x8000 0x7000 (step_of r level)
      by true t = rw (← step_scaled t) (wide (product_in {l' = 0} {h' = 0xFFFF} (full_in r i) (record { top = h; low = zero-le })) tt)
      by false t = rw (← step_plain t) (wide (full_in r i) tt)
