use Rattle.lines.specs.Line.{begun_of}
use mathlib.Core.Path.{refl}
use Rattle.lines_scan.proofs.begin.Goals as goal

pub returns : goal.returns
unfolding begun_of
returns c = refl
