use borrow.Author.Rules.{rules}
use Rattle.envelope.proofs.Times.{four_fits, cycles_four, cycles_one}
use Rattle.envelope.proofs.Rate.cycles.Goals as goal

pub overflow_mul-result : goal.overflow_mul-result
overflow_mul-result c = search (four_fits, rules)

pub returns-then-self-level : goal.returns-then-self-level
returns-then-self-level c = search cycles_four

pub returns-else-self-level : goal.returns-else-self-level
returns-else-self-level c = search cycles_one
