-- Addresses, as the code finds them. Assumes nothing.
use mathlib.Core.Path.{◌≡◌, ◌∙◌}
use Prim.Native.Nat.{ℕ, ◌+◌, ◌-◌, ◌*◌, ◌%◌, ◌≤◌, ◌<◌}
use native.Mathlib.Nat.{mod-eq_of_lt, mod-eq-sub-mod, mod-lt, mod-mod_of_dvd, dvd_of_mod-eq-zero}
use native.Mathlib.Omega.{arith}
use Rattle.soundram.specs.Address.{address_of, forward_of}
use Rattle.soundram.specs.declared.UnitAddress.{UnitAddress}
use Rattle.soundram.specs.declared.ByteAddress.{ByteAddress}

-- a remainder of a multiple of d by one
mod_multiple : (d x size : ℕ) → size % d ≡ 0 → x % d ≡ 0 → x % size % d ≡ 0
mod_multiple d x size e p = mod-mod_of_dvd d x (dvd_of_mod-eq-zero d e) ∙ p

pub address_small : (size : ℕ) (u : UnitAddress) → u.0 * 8 < size → record { 0 = u.0 * 8 } ≡ address_of size u
unfolding address_of
address_small size u h = rw (mod-eq_of_lt h)

-- a unit's address is a multiple of 8; and a multiple stays one, a multiple further on
pub address_multiple : (size : ℕ) (u : UnitAddress) → size % 8 ≡ 0 → (address_of size u).0 % 8 ≡ 0
unfolding address_of
address_multiple size u e = mod_multiple 8 (u.0 * 8) size e (omega arith)

pub address_below : (size : ℕ) (u : UnitAddress) → 0 < size → (address_of size u).0 < size
unfolding address_of
address_below size u h = mod-lt (u.0 * 8) h

pub forward_multiple : (d size : ℕ) (a : ByteAddress) (k : ℕ) → size % d ≡ 0 → (a.0 + k) % d ≡ 0 → (forward_of size a k).0 % d ≡ 0
unfolding forward_of
forward_multiple d size a k e p = mod_multiple d (a.0 + k) size e p

pub forward_small : (size : ℕ) (a : ByteAddress) (k : ℕ) → a.0 + k < size → record { 0 = a.0 + k } ≡ forward_of size a k
unfolding forward_of
forward_small size a k h = rw (mod-eq_of_lt h)

pub forward_wraps : (size : ℕ) (a : ByteAddress) (k : ℕ) → size ≤ a.0 + k → a.0 < size → k ≤ size → record { 0 = a.0 + k - size } ≡ forward_of size a k
unfolding forward_of
forward_wraps size a k h p q = rw (mod-eq-sub-mod h, mod-eq_of_lt (less h p q))
  where
    less : size ≤ a.0 + k → a.0 < size → k ≤ size → a.0 + k - size < size
    less h p q = omega arith

pub forward_below : (size : ℕ) (a b : ByteAddress) (k : ℕ) → b ≡ forward_of size a k → a.0 < size → b.0 < size
unfolding forward_of
forward_below size a b k e p = rw e (mod-lt (a.0 + k) (some p))
  where
    some : a.0 < size → 0 < size
    some p = omega arith
