-- The ranges of number 2 that concern an envelope. Assumes nothing.
use Rattle.std.specs.Prelude.{◌≡◌, true, ◌≤◌}
use Rattle.envelope.specs.declared.Envelope.{Envelope}
use Rattle.envelope.specs.Adsr.{active}

-- "envelope 0..7FFFh"; "envelope wait 0..400000h, at least 1 in Attack, Decay, Sustain, Release"
pub record InRange (e : Envelope) : Type 0 where
  pub level : e.level ≤ 0x7FFF
  pub wait : e.wait ≤ 0x400000
  pub runs : active e.phase ≡ true → 1 ≤ e.wait
