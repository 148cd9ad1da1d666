use Rattle.std.proofs.Common.{arith}
use Rattle.std.proofs.lemmas.Grind.{common_steps}
use Rattle.std.proofs.lemmas.Bool.Decides.{nat_tests}
use Rattle.commands.specs.Command.{raw_of, chosen}
use Rattle.commands_word.proofs.raw.Goals as goal

pub returns-in-24273261 : goal.returns-in-24273261
unfolding raw_of chosen
returns-in-24273261 c = grind (arith, nat_tests, common_steps)

pub returns-in-1569297951603 : goal.returns-in-1569297951603
unfolding raw_of chosen
returns-in-1569297951603 c = grind (arith, nat_tests, common_steps)

pub returns-in-6013152364 : goal.returns-in-6013152364
unfolding raw_of chosen
returns-in-6013152364 c = grind (arith, nat_tests, common_steps)

pub returns-in_default : goal.returns-in_default
unfolding raw_of chosen
returns-in_default c = grind (arith, nat_tests, common_steps)
