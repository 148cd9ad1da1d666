use Rattle.register_write.proofs.Work.{keyed_none, keyed_on_lem}
use Rattle.register_write.proofs.key_on.Goals as goal

pub returns-else-register-eq1 : goal.returns-else-register-eq1
returns-else-register-eq1 c = search keyed_none

pub returns-then-register-eq1 : goal.returns-then-register-eq1
returns-then-register-eq1 c = search keyed_on_lem
