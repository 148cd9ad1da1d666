use Rattle.layout.specs.Layout.{state_of, Holds}
use Rattle.register_write.specs.Keys.{stop_voices}
use Rattle.register_write.proofs.stop_all.Given as goal

abbrev pub invariant-loop-n : goal.invariant-loop-n
invariant-loop-n l = Holds l.state (stop_voices (state_of l.initial.state) l.n)
