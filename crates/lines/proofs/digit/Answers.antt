use Rattle.std.proofs.Common.{arith}
use Rattle.std.proofs.lemmas.Grind.{common_steps}
use Rattle.lines.proofs.Laws.{digit_is}
use Rattle.lines.proofs.digit.Goals as goal

pub returns : goal.returns
returns c = grind (arith, common_steps, digit_is)
