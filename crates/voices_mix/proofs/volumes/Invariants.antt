use Prim.Native.Nat.{◌-◌}
use Rattle.voices_mix.proofs.Shares.{Filled}
use Rattle.voices_mix.proofs.volumes.Given as goal

abbrev pub invariant-loop-i : goal.invariant-loop-i
invariant-loop-i l = Filled l.regs l.v l.i

abbrev pub decreases-loop-i : goal.decreases-loop-i
decreases-loop-i l = 24 - l.i
