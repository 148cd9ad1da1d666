use Rattle.tick.proofs.Parts.{turning_as}
use Rattle.tick.proofs.turning.Goals as goal

pub returns : goal.returns
returns c = search turning_as
