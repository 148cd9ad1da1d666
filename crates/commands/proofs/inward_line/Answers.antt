use Rattle.std.proofs.Common.{arith}
use Rattle.std.proofs.lemmas.Grind.{common_steps}
use Rattle.std.proofs.lemmas.Bool.Decides.{nat_tests}
use Rattle.commands.specs.Command.{inward_of}
use Rattle.commands.proofs.inward_line.Goals as goal

pub returns-then-n-l : goal.returns-then-n-l
unfolding inward_of
returns-then-n-l c = grind (arith, nat_tests, common_steps)

pub returns : goal.returns
unfolding inward_of
returns c = grind (arith, nat_tests, common_steps)
