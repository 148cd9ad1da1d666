use Rattle.lines.specs.Line.{grown_of}
use Rattle.lines_scan.proofs.grow.Goals as goal

pub returns : goal.returns
unfolding grown_of
returns c = cc
