use Rattle.soundram.proofs.Programs.{does_put}
use Rattle.access.proofs.write.Goals as goal

pub returns : goal.returns
returns c = search does_put
