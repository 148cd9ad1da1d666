use Rattle.std.proofs.Common.{◌-◌, length}
use Rattle.sessions.proofs.Program.take.Given as goal

abbrev pub decreases-loop-at : goal.decreases-loop-at
decreases-loop-at l = length l.input - l.at
