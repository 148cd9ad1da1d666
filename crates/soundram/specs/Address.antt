-- Addresses, and what a caller lends. Assumes nothing.
use Rattle.std.specs.Prelude.{◌≡◌, List, ℕ, ◌+◌, ◌*◌, ◌/◌, ◌%◌, ◌≤◌, ◌<◌, length}
use Rattle.soundram.specs.declared.UnitAddress.{UnitAddress}
use Rattle.soundram.specs.declared.ByteAddress.{ByteAddress}

-- "An address is the unit number times 8, modulo L."
unfoldable pub address_of : ℕ → UnitAddress → ByteAddress
address_of size u = record { 0 = u.0 * 8 % size }

-- the unit that a byte address lies in
unfoldable pub unit_of : ByteAddress → UnitAddress
unit_of a = record { 0 = a.0 / 8 }

-- k bytes further on, wrapping at L
unfoldable pub forward_of : ℕ → ByteAddress → ℕ → ByteAddress
forward_of size a k = record { 0 = (a.0 + k) % size }

-- "A halfword lies at an even address": halfword h lies at 2h
abbrev pub halfword_of : ByteAddress → ℕ
halfword_of a = a.0 / 2

-- "L = 65,536 or 524,288": of L, no more is used than its ends and that 16 divides it
pub record Sized (size : ℕ) : Type 0 where
  pub least : 0x10000 ≤ size
  pub most : size ≤ 0x80000
  pub sixteens : size % 16 ≡ 0

-- "Sound RAM is L bytes"; "Marks are L/16 bytes"
pub record Lent (size : ℕ) (ram marks : List ℕ) : Type 0 where
  pub ram_size : length ram ≡ size
  pub marks_size : length marks * 16 ≡ size
  pub sized : Sized size

-- an address that lies in what is lent
pub record Within (ram marks : List ℕ) (a : ByteAddress) : Type 0 where
  pub below : a.0 < length ram
  pub marks_size : length marks * 16 ≡ length ram
