use Rattle.std.proofs.Common.{arith}
use Rattle.std.proofs.lemmas.Grind.{common_steps}
use Rattle.std.proofs.lemmas.Bool.Decides.{nat_tests}
use Rattle.commands.specs.Command.{replay_of}
use Rattle.commands_word.proofs.replay.Goals as goal

pub returns-then-l : goal.returns-then-l
unfolding replay_of
returns-then-l c = grind (arith, nat_tests, common_steps)

pub returns : goal.returns
unfolding replay_of
returns c = grind (arith, nat_tests, common_steps)
