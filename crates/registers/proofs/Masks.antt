-- The mask of undocumented bits, under which a value is tested. Assumes nothing.
use mathlib.Core.Path.{◌≡◌}
use mathlib.Core.Bool.{not}
use Prim.Native.Nat.{ℕ}
use lib.Bits.{bit_and}
use lib.Dec.{eqb}
use Rattle.registers.specs.Offsets.{undocumented_bits, undocumented}

-- m is the code's mask
pub under_mask : (offset value : ℕ) {m : ℕ} → m ≡ undocumented_bits offset → not (eqb (bit_and value m) 0) ≡ undocumented offset value
unfolding undocumented
under_mask offset value e = rw e
