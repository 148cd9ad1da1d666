use Rattle.soundram.specs.Program.{mem_of}
use Rattle.tick_runs.proofs.Voices.{Played}
use Rattle.tick_runs.proofs.play_all.Given as goal

abbrev pub invariant-loop-n : goal.invariant-loop-n
invariant-loop-n l = Played l.size l.all.regs.now l.level l.initial.state (mem_of l.ram l.marks l.initial.watch) l.n l.state l.amplitudes l.below (mem_of l.ram l.marks l.watch)
