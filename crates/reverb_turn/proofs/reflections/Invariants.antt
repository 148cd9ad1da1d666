use Rattle.soundram.specs.Address.{Lent}
use Rattle.soundram.specs.Program.{Does, mem_of, repeat}
use Rattle.reverb.proofs.Turns.{reflection_at}
use Rattle.reverb_turn.proofs.reflections.Given as goal

abbrev pub invariant-loop-m : goal.invariant-loop-m
invariant-loop-m l =
    Lent l.line.area.size l.ram l.marks
    × Does (repeat (reflection_at l.regs l.line.area l.line.turning l.x l.m-items) l.m-index tt) (mem_of l.initial.ram l.initial.marks l.initial.watch) tt (mem_of l.ram l.marks l.watch)
