use Rattle.std.proofs.Common.{rules}
use Rattle.voice_play.proofs.Laws.{ticked_range}
use Rattle.voice_play.proofs.tick.Goals as goal

pub invariant_of-result : goal.invariant_of-result
invariant_of-result g c = record { in_range = search (ticked_range, rules) }
