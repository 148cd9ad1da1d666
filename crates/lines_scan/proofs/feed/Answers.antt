use Rattle.lines_scan.proofs.Laws.{feed_blank, feed_other}
use Rattle.lines_scan.proofs.feed.Goals as goal

pub returns-then-blank : goal.returns-then-blank
returns-then-blank c = search feed_blank

pub returns : goal.returns
returns c = search feed_other
