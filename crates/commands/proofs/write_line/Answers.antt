use Rattle.std.proofs.Common.{arith}
use Rattle.std.proofs.lemmas.Grind.{common_steps}
use Rattle.std.proofs.lemmas.Bool.Decides.{nat_tests}
use Rattle.commands.specs.Command.{write_of}
use Rattle.commands.proofs.write_line.Goals as goal

pub returns-then-l-ne3 : goal.returns-then-l-ne3
unfolding write_of
returns-then-l-ne3 c = grind (arith, nat_tests, common_steps)

pub returns : goal.returns
unfolding write_of
returns c = grind (arith, nat_tests, common_steps)

pub returns-in_err-halfword_within : goal.returns-in_err-halfword_within
unfolding write_of
returns-in_err-halfword_within c = grind (arith, nat_tests, common_steps)

pub returns-in_err-halfword_within-2 : goal.returns-in_err-halfword_within-2
unfolding write_of
returns-in_err-halfword_within-2 c = grind (arith, nat_tests, common_steps)
