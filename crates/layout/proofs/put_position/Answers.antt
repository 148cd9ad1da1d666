use Rattle.layout.proofs.Put.{position_holds}
use Rattle.layout.proofs.put_position.Goals as goal

pub returns : goal.returns
returns c = search position_holds
