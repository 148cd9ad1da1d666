use Rattle.noise.proofs.Laws.{written_same, written_other}
use Rattle.noise.proofs.write.Goals as goal

pub returns-then-old-new : goal.returns-then-old-new
returns-then-old-new c = search written_same

pub returns : goal.returns
returns c = search written_other
