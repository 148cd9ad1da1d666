use native.Mathlib.Nat.{div-one}
use Rattle.envelope.specs.Adsr.{sustain_level}
use Rattle.envelope_tick.proofs.sustain_level.Goals as goal

pub returns : goal.returns
unfolding sustain_level
returns c = rw div-one
