use Rattle.soundram.proofs.Programs.{does_get}
use Rattle.access.proofs.read.Goals as goal

pub returns : goal.returns
returns c = search does_get
