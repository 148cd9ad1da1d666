use Rattle.voices.proofs.Settings.{settings_by_as}
use Rattle.voices.proofs.AllSettings.of.Goals as goal

pub returns : goal.returns
returns c = search settings_by_as
