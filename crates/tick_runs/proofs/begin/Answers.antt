use Rattle.tick_runs.proofs.Voices.{below_2, begun}
use Rattle.chip.proofs.Tests.{sized}
use Rattle.tick_runs.proofs.begin.Goals as goal

pub reverb-requires : goal.reverb-requires
reverb-requires c = below_2 c.requires.1.place (sized _ c.requires.1.size)

pub returns : goal.returns
returns c =
    begun _ _ c.requires.2 c.noise.ensures c.control.ensures c.reverb.ensures c.capture.ensures c.tick.ensures c.at.ensures c.tick-2.ensures c.watch.ensures
