use Prim.Native.Nat.{◌<◌}
use Rattle.soundram.specs.Address.{Lent}
use Rattle.soundram.specs.Program.{Does, mem_of, repeat}
use Rattle.transfer.specs.Transfer.{get_at}
use Rattle.transfer.proofs.outward_around.Given as goal

abbrev pub invariant-loop-x : goal.invariant-loop-x
invariant-loop-x l =
    Lent l.size l.ram l.marks × (l.address.0 < l.size)
    × Does (repeat (get_at l.size) l.x-index (record { address = l.initial.address; buffer = l.initial.out })) (mem_of l.ram l.marks l.initial.watch) (record { address = l.address; buffer = l.out }) (mem_of l.ram l.marks l.watch)
