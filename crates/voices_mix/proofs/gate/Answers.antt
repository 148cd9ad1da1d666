use mir.Facts.{to_z-of_z}
use Rattle.voices_mix.proofs.Shares.{gate_on, gate_off}
use Rattle.voices_mix.proofs.gate.Goals as goal

pub returns-then-on : goal.returns-then-on
returns-then-on c = gate_on _ c.if-on.true (to_z-of_z c.ranges.volume)

pub returns-else-on : goal.returns-else-on
returns-else-on c = gate_off _ c.if-on.false
