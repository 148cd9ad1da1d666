use Rattle.std.proofs.Common.{arith}
use Rattle.std.proofs.lemmas.Grind.{common_steps}
use Rattle.std.proofs.lemmas.Bool.Decides.{nat_tests}
use Rattle.commands.specs.Command.{bench_of, chosen}
use Rattle.commands_word.proofs.bench.Goals as goal

pub returns-in-375 : goal.returns-in-375
unfolding bench_of chosen
returns-in-375 c = grind (arith, nat_tests, common_steps)

pub returns-in-371 : goal.returns-in-371
unfolding bench_of chosen
returns-in-371 c = grind (arith, nat_tests, common_steps)

pub returns-in-372 : goal.returns-in-372
unfolding bench_of chosen
returns-in-372 c = grind (arith, nat_tests, common_steps)

pub returns-in_default : goal.returns-in_default
unfolding bench_of chosen
returns-in_default c = grind (arith, nat_tests, common_steps)
