use Rattle.layout.specs.Layout.{state_of}
use Rattle.tick_runs.proofs.Ticks.{Running}
use Rattle.tick_runs.proofs.run.Given as goal

abbrev pub invariant-loop-k : goal.invariant-loop-k
invariant-loop-k l = Running (state_of l.initial.state) l.cd l.initial.ram l.initial.marks l.initial.out l.count l.k l.state l.g l.ram l.marks l.out
