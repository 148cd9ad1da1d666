use Rattle.std.proofs.Common.{arith}
use Rattle.std.proofs.lemmas.Grind.{common_steps}
use Rattle.std.proofs.lemmas.Bool.Decides.{nat_tests}
use Rattle.lines.specs.Line.{is_count}
use Rattle.commands.specs.Command.{tick_of, plain_of}
use Rattle.commands.proofs.tick_line.Goals as goal

pub returns-then-l-ne4 : goal.returns-then-l-ne4
unfolding tick_of plain_of
returns-then-l-ne4 c = grind (arith, nat_tests, common_steps)

pub returns-in_err-count : goal.returns-in_err-count
unfolding tick_of plain_of
returns-in_err-count c = grind (arith, nat_tests, common_steps)

pub returns-in_err-left : goal.returns-in_err-left
unfolding tick_of plain_of
returns-in_err-left c = grind (arith, nat_tests, common_steps)

pub returns-in_err-right : goal.returns-in_err-right
unfolding tick_of plain_of
returns-in_err-right c = grind (arith, nat_tests, common_steps)

pub returns : goal.returns
unfolding tick_of plain_of is_count
returns c = grind (arith, nat_tests, common_steps)
