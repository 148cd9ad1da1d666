use Rattle.noise.proofs.Laws.{parity_fits, shift_sum}
use Rattle.noise.proofs.shift.Goals as goal

pub overflow_add-result : goal.overflow_add-result
overflow_add-result c = record { fits = search parity_fits }

pub returns : goal.returns
returns c = search shift_sum
