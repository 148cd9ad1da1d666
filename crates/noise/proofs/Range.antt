-- The timer stays within 0..20000h, for every value of SPUCNT. Assumes nothing.
use mathlib.Core.Path.{◌≡◌, refl}
use Prim.Native.Nat.{ℕ, ◌-◌, ◌≤◌}
use native.Mathlib.Decide.{dec_le, ℕ_discrete}
use native.Mathlib.Omega.{arith}
use Rattle.fixed.specs.Bits.{field}
use Rattle.noise.specs.Noise.{InRange, reload_of, step_of, ticked_of, written_of}
use Rattle.noise.specs.declared.Noise.{Noise}
use Rattle.noise.proofs.Laws.{reload_most, ticked_waits, ticked_once, ticked_twice, written_same, written_other}

pub ticked_in : (n : Noise) (spucnt : ℕ) → InRange n → InRange (ticked_of n spucnt)
ticked_in n spucnt i = by (dec_le (step_of spucnt) n.timer) (dec_le (step_of spucnt - n.timer) (reload_of spucnt))
  where
    by : Dec (step_of spucnt ≤ n.timer) → Dec (step_of spucnt - n.timer ≤ reload_of spucnt) → InRange (ticked_of n spucnt)
    by (yes p) d = rw (← ticked_waits n spucnt p) (record { timer = omega arith })
    by (no p) (yes q) =
        let m = reload_most spucnt in
        rw (← ticked_once n spucnt _ _ refl refl (omega arith) q) (record { timer = omega arith })
    by (no p) (no q) =
        let m = reload_most spucnt in
        rw (← ticked_twice n spucnt _ _ refl refl (omega arith) (omega arith)) (record { timer = omega arith })

pub written_in : (n : Noise) (old new : ℕ) → InRange n → InRange (written_of n old new)
written_in n old new i = by (ℕ_discrete (field 10 4 old) (field 10 4 new))
  where
    by : Dec (field 10 4 old ≡ field 10 4 new) → InRange (written_of n old new)
    by (yes p) = rw (written_same n old new p) at i
    by (no p) = rw (← written_other n old new _ refl p) (record { timer = reload_most new })
