use Rattle.std.proofs.Common.{arith}
use Rattle.std.proofs.lemmas.Grind.{common_steps}
use Rattle.lines.specs.Line.{is_count}
use Rattle.lines.proofs.Field.count_within.Goals as goal

pub returns-then-self-least : goal.returns-then-self-least
unfolding is_count
returns-then-self-least c = grind (arith, common_steps)

pub returns-else-self-least : goal.returns-else-self-least
unfolding is_count
returns-else-self-least c = grind (arith, common_steps)
