use Rattle.envelope.proofs.Phases.{endless, attack_ends, attack_stays, decay_ends, decay_stays, release_ends, release_stays}
use Rattle.envelope_tick.proofs.phase_after.Goals as goal

pub returns-in-Idle : goal.returns-in-Idle
returns-in-Idle c = search endless

pub returns-in-Attack : goal.returns-in-Attack
returns-in-Attack c = search attack_ends

pub returns-in-Decay : goal.returns-in-Decay
returns-in-Decay c = search decay_ends

pub returns-in-Release : goal.returns-in-Release
returns-in-Release c = search release_ends

pub returns-in_default : goal.returns-in_default
returns-in_default c = search attack_stays

pub returns-in_default-2 : goal.returns-in_default-2
returns-in_default-2 c = search decay_stays

pub returns-in_default-3 : goal.returns-in_default-3
returns-in_default-3 c = search release_stays
