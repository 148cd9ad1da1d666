use Rattle.std.proofs.Common.{rules}
use Rattle.lines.proofs.Laws.{digit_small, more_parts}
use Rattle.lines.proofs.Field.more.Goals as goal

pub longer-requires-2 : goal.longer-requires-2
longer-requires-2 c = search (digit_small, rules)

pub longer-requires-3 : goal.longer-requires-3
longer-requires-3 c = search (digit_small, rules)

pub returns : goal.returns
returns c = search (more_parts, rules)
