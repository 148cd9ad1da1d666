use Rattle.std.proofs.Common.{rules}
use Rattle.sessions.proofs.Laws.{filled_none, filled_more, filled_all}
use Rattle.sessions.proofs.fill.Goals as goal

pub loop-k-init : goal.loop-k-init
loop-k-init c = search (filled_none, rules)

pub loop-k-preserved : goal.loop-k-preserved
loop-k-preserved c = search (filled_more, rules)

pub returns : goal.returns
returns c = search (filled_all, rules)
