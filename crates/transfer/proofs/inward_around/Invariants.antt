use Prim.Native.Nat.{◌<◌}
use Rattle.soundram.specs.Address.{Lent}
use Rattle.soundram.specs.Program.{Does, mem_of, repeat}
use Rattle.transfer.specs.Transfer.{put_at}
use Rattle.transfer.proofs.inward_around.Given as goal

abbrev pub invariant-loop-value : goal.invariant-loop-value
invariant-loop-value l =
    Lent l.size l.ram l.marks × (l.m.value.0 < l.size)
    × Does (repeat (put_at l.size l.values) l.value-index l.initial.m.value) (mem_of l.initial.ram l.initial.marks l.initial.m.watch) l.m.value (mem_of l.ram l.marks l.m.watch)
