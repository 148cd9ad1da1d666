use Rattle.std.proofs.Common.{arith}
use Rattle.std.proofs.lemmas.Grind.{common_steps}
use Rattle.std.proofs.lemmas.Bool.Decides.{nat_tests}
use Rattle.commands.specs.Command.{view_of}
use Rattle.commands.proofs.view_line.Goals as goal

pub returns-then-l-ne2 : goal.returns-then-l-ne2
unfolding view_of
returns-then-l-ne2 c = grind (arith, nat_tests, common_steps)

pub returns-in_err-address : goal.returns-in_err-address
unfolding view_of
returns-in_err-address c = grind (arith, nat_tests, common_steps)

pub returns : goal.returns
unfolding view_of
returns c = grind (arith, nat_tests, common_steps)
