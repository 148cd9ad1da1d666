-- The rate of a phase. Assumes nothing.
use mathlib.Core.Path.{◌≡◌}
use mathlib.Core.Bool.{Bool, true, false, cond}
use Prim.Native.Nat.{ℕ, ◌<◌}
use native.Mathlib.Omega.{arith}
use Rattle.fixed.specs.Range.{In}
use Rattle.fixed.specs.Bits.{bit, field}
use Rattle.envelope.specs.declared.Phase.{Phase}
use Rattle.envelope.specs.declared.Phase.TheVariants.{Idle, Attack, Decay, Sustain, Release, Off}
use Rattle.envelope.specs.declared.Rate.{Rate}
use Rattle.envelope.specs.Adsr.{rise, fall, rate_of}

-- that of a phase p which is known to be q
pub rate_at : {p q : Phase} {r : Rate} (low high : ℕ) → p ≡ q → r ≡ rate_of q low high → r ≡ rate_of p low high
rate_at low high e h = rw e h

-- what a rate made of registers keeps to
record Made (r : Rate) : Type 0 where
  shift : r.shift < 32
  value : In 8 7 r.value

value_in : (b : Bool) (n : ℕ) → In 8 7 (cond b (fall n) (rise n))
value_in true n = omega arith
value_in false n = omega arith

made : (phase : Phase) (low high : ℕ) → Made (rate_of phase low high)
unfolding rate_of
made Idle low high = omega arith
made Attack low high = omega arith
made Decay low high = omega arith
made Sustain low high = record { shift = omega arith; value = value_in (bit 14 high) (field 6 2 high) }
made Release low high = omega arith
made Off low high = omega arith

pub rate_shift : {r : Rate} (phase : Phase) (low high : ℕ) → r ≡ rate_of phase low high → r.shift < 32
rate_shift phase low high e = rw e (made phase low high).shift

pub rate_value : {r : Rate} (phase : Phase) (low high : ℕ) → r ≡ rate_of phase low high → In 8 7 r.value
rate_value phase low high e = rw e (made phase low high).value
