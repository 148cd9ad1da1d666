use Rattle.std.proofs.Common.{arith}
use Rattle.std.proofs.lemmas.Grind.{common_steps}
use Rattle.std.proofs.lemmas.Bool.Decides.{nat_tests}
use Rattle.commands.specs.Command.{ram_of}
use Rattle.commands_raw.proofs.ram_line.Goals as goal

pub returns-then-l-ne3 : goal.returns-then-l-ne3
unfolding ram_of
returns-then-l-ne3 c = grind (arith, nat_tests, common_steps)

pub returns-in_err-address : goal.returns-in_err-address
unfolding ram_of
returns-in_err-address c = grind (arith, nat_tests, common_steps)

pub returns : goal.returns
unfolding ram_of
returns c = grind (arith, nat_tests, common_steps)
