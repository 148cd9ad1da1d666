-- Whatever the registers hold, an envelope that is entered, and one after a tick, lie in their ranges. Assumes nothing.
use mathlib.Core.Path.{◌≡◌, refl, sym, subst, ◌∙◌}
use mathlib.Core.Bool.{Bool, true, false}
use Prim.Native.Nat.{ℕ, ◌≤◌, ◌<◌, zero-le}
use native.Mathlib.Nat.{min-le_right}
use native.Mathlib.Decide.{dec_lt}
use native.Mathlib.Omega.{arith}
use lib.Dec.{T}
use lib.IntN.{ℤ, pos, negsuc}
use Rattle.envelope.specs.declared.Phase.{Phase}
use Rattle.envelope.specs.declared.Envelope.{Envelope}
use Rattle.envelope.specs.Adsr.{rate_of, clamped, active, entered_of, moved_of, ticked_of}
use Rattle.envelope.specs.Range.{InRange}
use Rattle.envelope.proofs.Rates.{rate_shift}
use Rattle.envelope.proofs.Times.{cycles_in}
use Rattle.envelope.proofs.Ticks.{entered_active, entered_inactive, moved_as, ticked_inactive, ticked_waits, ticked_moves}

pub clamped_in : (z : ℤ) → clamped z ≤ 0x7FFF
unfolding clamped
clamped_in (pos n) = min-le_right n 0x7FFF
clamped_in (negsuc n) = zero-le

pub entered_in : (phase : Phase) (level low high : ℕ) → level ≤ 0x7FFF → InRange (entered_of phase level low high)
entered_in phase level low high h = by (active phase) refl
  where
    by : (b : Bool) → b ≡ active phase → InRange (entered_of phase level low high)
    by true a =
        let n = cycles_in (rate_of phase low high) level (rate_shift phase low high refl) in
        rw (← entered_active phase level low high a refl refl refl) (record { level = h; wait = n.1; runs = λ _. n.0 })
    by false a =
        rw (← entered_inactive phase level low high a refl)
        (record { level = h; wait = zero-le; runs = λ t. absurd (subst T (sym (a ∙ t)) tt) })

moved_in : (phase : Phase) (level low high : ℕ) → InRange (moved_of phase level low high)
moved_in phase level low high =
    rw (← moved_as phase level low high refl refl refl refl refl) (entered_in _ _ low high (clamped_in _))

pub ticked_in : (e : Envelope) (low high : ℕ) → InRange e → InRange (ticked_of e low high)
ticked_in e low high i = by (active e.phase) refl (dec_lt 1 e.wait)
  where
    by : (b : Bool) → b ≡ active e.phase → Dec (1 < e.wait) → InRange (ticked_of e low high)
    by false a d = rw (← ticked_inactive e low high a refl) i
    by true a (yes w) = rw (← ticked_waits e low high a refl w) (record { level = i.level; wait = omega arith; runs = λ _. omega arith })
    by true a (no w) = rw (← ticked_moves e low high a refl (omega arith) refl) (moved_in e.phase e.level low high)
