use Rattle.voices.proofs.Settings.{modulated_as}
use Rattle.voices.proofs.AllSettings.new.Goals as goal

pub invariant_of-result : goal.invariant_of-result
invariant_of-result c = search modulated_as
