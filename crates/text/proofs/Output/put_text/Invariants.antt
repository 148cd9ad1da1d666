use lib.ListN.{drop}
use Rattle.text.proofs.Laws.{Left}
use Rattle.text.proofs.Output.put_text.Given as goal

abbrev pub invariant-loop-b : goal.invariant-loop-b
invariant-loop-b l = Left l.text l.initial.self (drop l.b-index l.text) l.self
