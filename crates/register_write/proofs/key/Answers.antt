use Rattle.register_write.proofs.Work.{key_none, key_set}
use Rattle.register_write.proofs.key.Goals as goal

pub returns-then-not-set : goal.returns-then-not-set
returns-then-not-set c = search key_none

pub returns-then-on : goal.returns-then-on
returns-then-on c = search key_set

pub returns-else-on : goal.returns-else-on
returns-else-on c = search key_set
