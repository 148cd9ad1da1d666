use borrow.Author.Rules.{rules}
use Rattle.soundram.specs.Memory.{half}
use Rattle.access.proofs.half_at.Goals as goal

pub returns : goal.returns
unfolding half
returns c = search rules
