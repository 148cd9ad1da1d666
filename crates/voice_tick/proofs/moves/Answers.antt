use borrow.Author.Rules.{rules}
use mir.Facts.{to_z-of_z}
use Rattle.voice.proofs.Range.{stepped_below}
use Rattle.voice.proofs.Ticks.{moves_does}
use Rattle.voice_tick.proofs.moves.Goals as goal

pub arrive-requires : goal.arrive-requires
arrive-requires c = search (stepped_below, rules)

pub returns : goal.returns
returns c = search (moves_does, to_z-of_z)
