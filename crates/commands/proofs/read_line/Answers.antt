use Rattle.std.proofs.Common.{arith}
use Rattle.std.proofs.lemmas.Grind.{common_steps}
use Rattle.std.proofs.lemmas.Bool.Decides.{nat_tests}
use Rattle.commands.specs.Command.{read_of}
use Rattle.commands.proofs.read_line.Goals as goal

pub returns-then-l-ne2 : goal.returns-then-l-ne2
unfolding read_of
returns-then-l-ne2 c = grind (arith, nat_tests, common_steps)

pub returns-in_err-offset : goal.returns-in_err-offset
unfolding read_of
returns-in_err-offset c = grind (arith, nat_tests, common_steps)

pub returns : goal.returns
unfolding read_of
returns c = grind (arith, nat_tests, common_steps)
