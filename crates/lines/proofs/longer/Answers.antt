use Rattle.std.proofs.Common.{rules}
use Rattle.lines.proofs.Laws.{longer_product, longer_sum, longer_is}
use Rattle.lines.proofs.longer.Goals as goal

pub overflow_mul-min : goal.overflow_mul-min
overflow_mul-min c = search (longer_product, rules)

pub overflow_add-min : goal.overflow_add-min
overflow_add-min c = search (longer_sum, rules)

pub returns : goal.returns
returns c = search (longer_is, rules)
