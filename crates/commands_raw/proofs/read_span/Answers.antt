use Rattle.std.proofs.Common.{arith}
use Rattle.std.proofs.lemmas.Grind.{common_steps}
use Rattle.std.proofs.lemmas.Bool.Decides.{nat_tests}
use Rattle.lines.specs.Line.{is_count}
use Rattle.commands.specs.Command.{ranged}
use Rattle.commands_raw.proofs.read_span.Goals as goal

pub returns-in_err-address : goal.returns-in_err-address
unfolding ranged is_count
returns-in_err-address c = grind (arith, nat_tests, common_steps)

pub returns-in_err-count : goal.returns-in_err-count
unfolding ranged is_count
returns-in_err-count c = grind (arith, nat_tests, common_steps)

pub returns-then-from-unit : goal.returns-then-from-unit
unfolding ranged is_count
returns-then-from-unit c = grind (arith, nat_tests, common_steps)

pub returns-else-from-unit : goal.returns-else-from-unit
unfolding ranged is_count
returns-else-from-unit c = grind (arith, nat_tests, common_steps)
