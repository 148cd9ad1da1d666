use Rattle.std.proofs.Common.{◌≡◌}
use Rattle.sessions.specs.Fill.{filled_of}
use Rattle.sessions.proofs.fill.Given as goal

abbrev pub invariant-loop-k : goal.invariant-loop-k
invariant-loop-k l = l.ram ≡ filled_of l.initial.ram l.from l.byte l.k
