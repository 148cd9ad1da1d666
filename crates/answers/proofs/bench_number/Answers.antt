use Rattle.answers.proofs.Laws.{number_done, number_refused}
use Rattle.answers.proofs.bench_number.Goals as goal

pub returns-else-number-ne0 : goal.returns-else-number-ne0
returns-else-number-ne0 c = search number_done

pub returns-then-number-ne0 : goal.returns-then-number-ne0
returns-then-number-ne0 c = search number_refused
