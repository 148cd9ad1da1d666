use Rattle.std.proofs.Common.{arith}
use Rattle.std.proofs.lemmas.Grind.{common_steps}
use Rattle.std.proofs.lemmas.Bool.Decides.{nat_tests}
use Rattle.commands.specs.Command.{fill_of}
use Rattle.commands_raw.proofs.fill_line.Goals as goal

pub returns-then-l-ne4 : goal.returns-then-l-ne4
unfolding fill_of
returns-then-l-ne4 c = grind (arith, nat_tests, common_steps)

pub returns-in_err-address : goal.returns-in_err-address
unfolding fill_of
returns-in_err-address c = grind (arith, nat_tests, common_steps)

pub returns-in_err-byte : goal.returns-in_err-byte
unfolding fill_of
returns-in_err-byte c = grind (arith, nat_tests, common_steps)

pub returns : goal.returns
unfolding fill_of
returns c = grind (arith, nat_tests, common_steps)
