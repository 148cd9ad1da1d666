use Rattle.std.proofs.Common.{arith}
use Rattle.std.proofs.lemmas.Grind.{common_steps}
use Rattle.std.proofs.lemmas.Bool.Decides.{nat_tests}
use Rattle.commands.specs.Command.{reset_of}
use Rattle.commands.proofs.reset_line.Goals as goal

pub returns-then-l-ne1 : goal.returns-then-l-ne1
unfolding reset_of
returns-then-l-ne1 c = grind (arith, nat_tests, common_steps)

pub returns : goal.returns
unfolding reset_of
returns c = grind (arith, nat_tests, common_steps)
