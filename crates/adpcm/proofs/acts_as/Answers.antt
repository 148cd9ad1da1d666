use Rattle.adpcm.proofs.Laws.{acts_other, acts_self}
use Rattle.adpcm.proofs.acts_as.Goals as goal

pub returns-then-most-x : goal.returns-then-most-x
returns-then-most-x c = search acts_other

pub returns-else-most-x : goal.returns-else-most-x
returns-else-most-x c = search acts_self
