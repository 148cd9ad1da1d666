use Rattle.std.proofs.Common.{rules}
use Rattle.voice_play.proofs.Laws.{off_range}
use Rattle.voice_play.proofs.keyed.Goals as goal

pub invariant_of-result : goal.invariant_of-result
invariant_of-result c = record { in_range = search (off_range, rules) }
