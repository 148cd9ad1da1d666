use mathlib.Core.Path.{◌≡◌}
use Rattle.chip.specs.Registers.{end_flags}
use Rattle.layout.specs.Layout.{state_of}
use Rattle.register_read.proofs.end_flags.Given as goal

abbrev pub invariant-loop-k : goal.invariant-loop-k
invariant-loop-k l = l.flags ≡ end_flags (state_of l.state).voices l.first l.k
