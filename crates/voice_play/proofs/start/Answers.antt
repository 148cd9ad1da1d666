use Rattle.std.proofs.Common.{rules}
use Rattle.voice_play.proofs.Laws.{on_range}
use Rattle.voice_play.proofs.start.Goals as goal

pub invariant_of-result : goal.invariant_of-result
invariant_of-result c = record { in_range = search (on_range, rules) }
