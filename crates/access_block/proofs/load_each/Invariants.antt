use mathlib.Core.Path.{◌≡◌}
use Prim.Native.Nat.{◌*◌, ◌-◌, ◌≤◌}
use lib.ListN.{length, take}
use Rattle.soundram.specs.Program.{Does, mem_of, bytes_from}
use Rattle.access_block.proofs.load_each.Given as goal

abbrev pub invariant-loop-i : goal.invariant-loop-i
invariant-loop-i l = (l.i ≤ 8) × (length l.bytes ≡ 16) × Does (bytes_from l.who l.size l.a l.i) (mem_of l.ram l.marks l.initial.watch) (take (l.i * 2) l.bytes) (mem_of l.ram l.marks l.watch)

abbrev pub decreases-loop-i : goal.decreases-loop-i
decreases-loop-i l = 8 - l.i
