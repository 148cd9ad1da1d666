use Rattle.std.proofs.Common.{rules, arith, ◌<◌}
use Rattle.sessions.proofs.Laws.{ended_past}
use Rattle.sessions.proofs.Program.take.Goals as goal

pub loop-at-smaller : goal.loop-at-smaller
loop-at-smaller c = let h : c.loop-at.at < c.in-Ended.next = search (ended_past, rules) in omega arith
