-- The pitch counter's definitions at each outcome of their tests, and their ranges. Assumes nothing.
use mathlib.Core.Path.{◌≡◌, ◌∙◌}
use mathlib.Core.Bool.{Bool, true, false, cond}
use Prim.Native.Nat.{ℕ, ◌≤◌, ◌<◌, min}
use native.Mathlib.Nat.{min-le_right}
use native.Mathlib.Decide.{dec_le}
use native.Mathlib.Omega.{arith}
use lib.IntN.{ℤ}
use lib.Dec.{ltb}
use borrow.Author.Tests.{lt-ltb, le-ltb}
use Rattle.pitch.specs.Pitch.{modulated_of, limited, step_of, moved_of}

limited_min : (step : ℕ) → min step 0x4000 ≡ limited step
unfolding limited
limited_min step = by (dec_le step 0x3FFF)
  where
    by : Dec (step ≤ 0x3FFF) → min step 0x4000 ≡ cond (ltb 0x3FFF step) 0x4000 step
    by (yes h) = rw (le-ltb 0x3FFF step h) (omega arith)
    by (no h) = rw (lt-ltb 0x3FFF step (omega arith)) (omega arith)

limited_most : (step : ℕ) → limited step ≤ 0x4000
limited_most step = rw (← limited_min step) (min-le_right step 0x4000)

-- s is the step before the limit; a is the amplitude as a call is handed it
pub step_modulated : (pitch : ℕ) (modulated : Bool) (amplitude a : ℤ) (s : ℕ) → modulated ≡ true
    → s ≡ modulated_of pitch a → a ≡ amplitude → min s 0x4000 ≡ step_of pitch modulated amplitude
unfolding step_of
step_modulated pitch modulated amplitude a s m e g = limited_min s ∙ rw (m, e, g)

pub step_plain : (pitch : ℕ) (modulated : Bool) (amplitude : ℤ) → modulated ≡ false → min pitch 0x4000 ≡ step_of pitch modulated amplitude
unfolding step_of
step_plain pitch modulated amplitude m = limited_min pitch ∙ rw m

pub step_most : (pitch : ℕ) (modulated : Bool) (amplitude : ℤ) → step_of pitch modulated amplitude ≤ 0x4000
unfolding step_of
step_most pitch modulated amplitude = limited_most _

-- "pitch counter below 1000h", and at most four samples are moved
pub moved_counter : (counter step : ℕ) → (moved_of counter step).counter < 0x1000
unfolding moved_of
moved_counter counter step = omega arith

pub moved_most : (counter step : ℕ) → counter < 0x1000 → step ≤ 0x4000 → (moved_of counter step).moves ≤ 4
unfolding moved_of
moved_most counter step c s = omega arith
