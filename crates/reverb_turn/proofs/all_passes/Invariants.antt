use Rattle.fixed.specs.Range.{In}
use Rattle.soundram.specs.Address.{Lent}
use Rattle.soundram.specs.Program.{Does, mem_of, repeat}
use Rattle.reverb.proofs.Turns.{pass_at}
use Rattle.reverb_turn.proofs.all_passes.Given as goal

abbrev pub invariant-loop-v : goal.invariant-loop-v
invariant-loop-v l =
    Lent l.line.area.size l.ram l.marks
    × Does (repeat (pass_at l.regs l.line.area l.line.turning l.v-items) l.v-index l.initial.sum.value) (mem_of l.initial.ram l.initial.marks l.initial.sum.watch) l.sum.value (mem_of l.ram l.marks l.sum.watch)
    × In 0x20000 0x20000 l.sum.value
