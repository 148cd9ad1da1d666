use borrow.Author.Rules.{rules}
use Rattle.lines_scan.proofs.Laws.{scan_first, scan_more, scan_end, scan_all}
use Rattle.lines_scan.proofs.scan.Goals as goal

pub loop-i-init : goal.loop-i-init
loop-i-init c = search (scan_first, rules)

pub returns-then-b-eq10 : goal.returns-then-b-eq10
returns-then-b-eq10 c = search (scan_end, rules)

pub loop-i-preserved : goal.loop-i-preserved
loop-i-preserved c = search (scan_more, rules)

pub returns : goal.returns
returns c = search (scan_all, rules)
