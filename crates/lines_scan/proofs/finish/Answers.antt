use Rattle.lines.proofs.Laws.{ended_same, ended_joined}
use Rattle.lines_scan.proofs.finish.Goals as goal

pub returns-then-l-eq0 : goal.returns-then-l-eq0
returns-then-l-eq0 c = search ended_same

pub returns : goal.returns
returns c = search ended_joined
