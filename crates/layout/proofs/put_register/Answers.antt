use Rattle.layout.proofs.Laws.{hold_register}
use Rattle.layout.proofs.put_register.Goals as goal

pub returns : goal.returns
returns c = search hold_register
