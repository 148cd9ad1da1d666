use Rattle.lines.specs.Line.{none_of}
use mathlib.Core.Path.{refl}
use Rattle.lines.proofs.Field.none.Goals as goal

pub returns : goal.returns
unfolding none_of
returns c = refl
