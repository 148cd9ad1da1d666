use Rattle.answers_ticks.proofs.Laws.{number_bits, no_bits}
use Rattle.answers_ticks.proofs.bits.Goals as goal

pub returns-then-is_nan : goal.returns-then-is_nan
returns-then-is_nan c = search no_bits

pub returns-else-is_nan : goal.returns-else-is_nan
returns-else-is_nan c = search number_bits
