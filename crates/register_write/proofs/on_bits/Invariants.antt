use Rattle.layout.specs.Layout.{state_of, Holds}
use Rattle.register_write.specs.Keys.{key_bits}
use Rattle.register_write.proofs.on_bits.Given as goal

abbrev pub invariant-loop-k : goal.invariant-loop-k
invariant-loop-k l = Holds l.state (key_bits l.on (state_of l.initial.state) l.value l.first l.k)
