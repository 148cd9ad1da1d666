use Rattle.std.proofs.Common.{arith}
use Rattle.std.proofs.lemmas.Grind.{common_steps}
use Rattle.std.proofs.lemmas.Bool.Decides.{nat_tests}
use Rattle.commands.specs.Command.{data_of, chosen}
use Rattle.commands_word.proofs.data.Goals as goal

pub returns-in-375 : goal.returns-in-375
unfolding data_of chosen
returns-in-375 c = grind (arith, nat_tests, common_steps)

pub returns-in-370 : goal.returns-in-370
unfolding data_of chosen
returns-in-370 c = grind (arith, nat_tests, common_steps)

pub returns-in-371 : goal.returns-in-371
unfolding data_of chosen
returns-in-371 c = grind (arith, nat_tests, common_steps)

pub returns-in-367 : goal.returns-in-367
unfolding data_of chosen
returns-in-367 c = grind (arith, nat_tests, common_steps)

pub returns-in_default : goal.returns-in_default
unfolding data_of chosen
returns-in_default c = grind (arith, nat_tests, common_steps)
