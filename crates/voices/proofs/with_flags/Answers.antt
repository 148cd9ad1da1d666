use Rattle.voices.proofs.Settings.{flagged_as}
use Rattle.voices.proofs.with_flags.Goals as goal

pub returns : goal.returns
returns c = search flagged_as
