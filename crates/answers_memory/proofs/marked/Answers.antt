use Rattle.answers_memory.proofs.Laws.{mark_is}
use Rattle.answers_memory.proofs.marked.Goals as goal

pub returns : goal.returns
returns c = search mark_is
