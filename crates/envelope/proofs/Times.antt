-- The ticks from one step to the next. Assumes nothing.
use mathlib.Core.Path.{◌≡◌}
use mathlib.Core.Bool.{Bool, true, false, not, cond, ◌&&◌}
use Prim.Native.Nat.{ℕ, ◌-◌, ◌*◌, ◌^◌, ◌≤◌, ◌<◌}
use native.Mathlib.Omega.{arith}
use lib.Dec.{ltb}
use lib.Pow.{pow_mono, pow_pos}
use mir.Syntax.{w32}
use mir.Val.{Fits}
use Rattle.envelope.specs.declared.Rate.{Rate}
use Rattle.envelope.specs.Adsr.{cycles_of}

-- the test for four times the ticks
abbrev slow : Rate → ℕ → Bool
slow r level = r.exponential && (not r.falling && ltb 0x6000 level)

module _ {n : ℕ} (r : Rate) (level : ℕ) (e : n ≡ 2 ^ (r.shift - 11)) where
  pub cycles_four : slow r level ≡ true → n * 4 ≡ cycles_of r level
  unfolding cycles_of
  cycles_four t = rw (e, t)

  pub cycles_one : slow r level ≡ false → n ≡ cycles_of r level
  unfolding cycles_of
  cycles_one t = rw (e, t) (omega arith)

pub four_fits : {n : ℕ} (a b : ℕ) → n ≡ 2 ^ (a - b) → a < 32 → 2 ≤ b → Fits w32 (n * 4)
four_fits a b e h l = let t : 2 ^ (a - b) ≤ 2 ^ 29 = pow_mono {j = 29} (omega arith) in record { fits = omega arith }

-- ---- from 1 to 400000h

times_in : (b : Bool) {n : ℕ} → 1 ≤ n → n ≤ 0x100000 → (1 ≤ n * cond b 4 1) × (n * cond b 4 1 ≤ 0x400000)
times_in true p q = omega arith
times_in false p q = omega arith

pub cycles_in : (r : Rate) (level : ℕ) → r.shift < 32 → (1 ≤ cycles_of r level) × (cycles_of r level ≤ 0x400000)
unfolding cycles_of
cycles_in r level h = times_in (slow r level) (pow_pos (r.shift - 11)) (pow_mono {j = 20} (omega arith))
