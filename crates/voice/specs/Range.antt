-- The ranges of number 2 that concern a voice. Assumes nothing.
use Rattle.std.specs.Prelude.{◌≡◌, ℕ, ◌%◌, ◌≤◌, ◌<◌}
use Rattle.envelope.specs.Range as envelope
use Rattle.voice.specs.declared.Voice.{Voice}

-- "envelope 0..7FFFh; pitch counter below 1000h; sample index 0..27; voice address a multiple of 8 below L", and the wait's
pub record InRange (size : ℕ) (v : Voice) : Type 0 where
  pub envelope : envelope.InRange v.envelope
  pub counter : v.position.counter < 0x1000
  pub index : v.position.index ≤ 27
  pub multiple : v.source.address.0 % 8 ≡ 0
  pub below : v.source.address.0 < size
