use mathlib.Core.Path.{refl}
use Rattle.chip.specs.State.{size_ok}
use Rattle.range_check.proofs.size_ok.Goals as goal

pub returns : goal.returns
unfolding size_ok
returns c = refl
