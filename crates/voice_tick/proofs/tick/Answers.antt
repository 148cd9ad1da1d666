use borrow.Author.Rules.{rules}
use mir.Facts.{to_z-of_z}
use Rattle.voice.proofs.Range.{ready_range, ready_index, ready_level}
use Rattle.voice.proofs.Ticks.{tick_idle, tick_sounds}
use Rattle.voice_tick.proofs.tick.Goals as goal

pub returns-then-is_idle : goal.returns-then-is_idle
returns-then-is_idle c = search tick_idle

pub amplitude-amplitude-requires : goal.amplitude-amplitude-requires
amplitude-amplitude-requires c = search (ready_index, ready_level)

pub moves-last-requires : goal.moves-last-requires
moves-last-requires c = search (ready_range, rules)

pub returns : goal.returns
returns c = search (tick_sounds, to_z-of_z)
