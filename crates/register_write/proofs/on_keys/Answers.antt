use Rattle.register_write.proofs.Work.{pair_first, pair_second}
use Rattle.register_write.proofs.on_keys.Goals as goal

pub returns-then-second-eq0 : goal.returns-then-second-eq0
returns-then-second-eq0 c = search pair_first

pub returns-else-second-eq0 : goal.returns-else-second-eq0
returns-else-second-eq0 c = search pair_second
