use Rattle.std.proofs.Common.{arith}
use Rattle.std.proofs.lemmas.Grind.{common_steps}
use Rattle.std.proofs.lemmas.Bool.Decides.{nat_tests}
use Rattle.commands.specs.Command.{marks_of}
use Rattle.commands_raw.proofs.marks_line.Goals as goal

pub returns-then-l-ne3 : goal.returns-then-l-ne3
unfolding marks_of
returns-then-l-ne3 c = grind (arith, nat_tests, common_steps)

pub returns-in_err-address : goal.returns-in_err-address
unfolding marks_of
returns-in_err-address c = grind (arith, nat_tests, common_steps)

pub returns-then-address-eq0 : goal.returns-then-address-eq0
unfolding marks_of
returns-then-address-eq0 c = grind (arith, nat_tests, common_steps)

pub returns-else-address-eq0 : goal.returns-else-address-eq0
unfolding marks_of
returns-else-address-eq0 c = grind (arith, nat_tests, common_steps)
