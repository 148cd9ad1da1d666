use Rattle.register_read.proofs.Values.{status_as}
use Rattle.register_read.proofs.status.Goals as goal

pub returns : goal.returns
returns c = search status_as
