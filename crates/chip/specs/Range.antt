-- The ranges of number 2, as facts. Assumes nothing.
use Rattle.std.specs.Prelude.{◌≡◌, true, ℕ, ◌-◌, ◌%◌, ◌≤◌, ◌<◌, length}
use Rattle.noise.specs.Noise as noise
use Rattle.soundram.specs.declared.ByteAddress.{ByteAddress}
use Rattle.voices.specs.Voices.{AllIn}
use Rattle.chip.specs.State.{State, size_ok, base_of}

-- as many registers and voices as the chip has
pub record Shaped (s : State) : Type 0 where
  pub regs : length s.regs ≡ 256
  pub voices : length s.voices ≡ 24

-- "capture place even, below 400h"
pub record CaptureIn (place : ℕ) : Type 0 where
  pub even : place % 2 ≡ 0
  pub below : place < 0x400

-- "reverb place even, from its base to L-2"
pub record PlaceIn (size base place : ℕ) : Type 0 where
  pub even : place % 2 ≡ 0
  pub least : base ≤ place
  pub most : place ≤ size - 2

-- "transfer address even, below L"
pub record TransferIn (size : ℕ) (a : ByteAddress) : Type 0 where
  pub even : a.0 % 2 ≡ 0
  pub below : a.0 < size

pub record InRange (s : State) : Type 0 where
  pub shaped : Shaped s
  pub size : size_ok s.choices.size ≡ true
  pub voices : AllIn s.choices.size s.voices
  pub capture : CaptureIn s.capture
  pub place : PlaceIn s.choices.size (base_of s).0 s.reverb.place.0
  pub transfer : TransferIn s.choices.size s.transfer
  pub noise : noise.InRange s.noise
