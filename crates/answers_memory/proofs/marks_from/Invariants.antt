use Rattle.answers.specs.Answer.{marks_from}
use Rattle.text.proofs.Laws.{Left}
use Prim.Native.Nat.{◌+◌, ◌-◌}
use Rattle.answers_memory.proofs.marks_from.Given as goal

abbrev pub invariant-loop-h : goal.invariant-loop-h
invariant-loop-h l = Left (marks_from l.values l.from l.n) l.initial.out (marks_from l.values l.h (l.from + l.n - l.h)) l.out
