use Rattle.answers.specs.Answer.{halfwords_from}
use Rattle.text.proofs.Laws.{Left}
use lib.ListN.{length}
use Prim.Native.Nat.{◌-◌}
use Rattle.answers_memory.proofs.halfwords.Given as goal

abbrev pub invariant-loop-value : goal.invariant-loop-value
invariant-loop-value l = Left (halfwords_from l.values 0 (length l.values)) l.initial.out (halfwords_from l.values l.value-index (length l.values - l.value-index)) l.out
