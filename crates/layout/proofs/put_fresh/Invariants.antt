use Rattle.layout.specs.Layout.{Holds}
use Rattle.layout.proofs.Made.{fresh_to}
use Rattle.layout.proofs.put_fresh.Given as goal

abbrev pub invariant-loop-n : goal.invariant-loop-n
invariant-loop-n l = Holds l.state (fresh_to l.initial.state l.n)
