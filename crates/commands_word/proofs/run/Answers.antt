use Rattle.std.proofs.Common.{arith}
use Rattle.std.proofs.lemmas.Grind.{common_steps}
use Rattle.std.proofs.lemmas.Bool.Decides.{nat_tests}
use Rattle.commands.specs.Command.{run_of, chosen}
use Rattle.commands_word.proofs.run.Goals as goal

pub returns-in-372 : goal.returns-in-372
unfolding run_of chosen
returns-in-372 c = grind (arith, nat_tests, common_steps)

pub returns-in-358 : goal.returns-in-358
unfolding run_of chosen
returns-in-358 c = grind (arith, nat_tests, common_steps)

pub returns-in-374 : goal.returns-in-374
unfolding run_of chosen
returns-in-374 c = grind (arith, nat_tests, common_steps)

pub returns-in-1590839960948 : goal.returns-in-1590839960948
unfolding run_of chosen
returns-in-1590839960948 c = grind (arith, nat_tests, common_steps)

pub returns-in_default : goal.returns-in_default
unfolding run_of chosen
returns-in_default c = grind (arith, nat_tests, common_steps)
