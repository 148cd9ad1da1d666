-- The level, held to 0..7FFFh. Assumes nothing.
use mathlib.Core.Path.{◌≡◌, refl}
use native.Mathlib.Omega.{arith}
use lib.IntN.{ℤ, pos, negsuc, nat_abs}
use Rattle.std.specs.Int.{int_min, int_max}
use Rattle.std.proofs.lemmas.Int.{ints, clamps}
use Rattle.envelope.specs.Adsr.{clamped}

pub clamped_is : (z : ℤ) → nat_abs (int_max (pos 0) (int_min z (pos 0x7FFF))) ≡ clamped z
unfolding clamped
clamped_is (pos n) = omega (arith, ints, clamps)
clamped_is (negsuc n) = refl
