use Rattle.lines.specs.Line.{fresh_of}
use Rattle.lines.proofs.Line.fresh.Goals as goal

pub returns : goal.returns
unfolding fresh_of
returns c = cc
