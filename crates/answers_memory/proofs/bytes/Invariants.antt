use Rattle.answers.specs.Answer.{bytes_from}
use Rattle.text.proofs.Laws.{Left}
use Prim.Native.Nat.{◌+◌, ◌-◌}
use Rattle.answers_memory.proofs.bytes.Given as goal

abbrev pub invariant-loop-i : goal.invariant-loop-i
invariant-loop-i l = Left (bytes_from l.values l.from l.n) l.initial.out (bytes_from l.values l.i (l.from + l.n - l.i)) l.out
