use Rattle.std.proofs.Common.{arith}
use Rattle.std.proofs.lemmas.Grind.{common_steps}
use Rattle.std.proofs.lemmas.Bool.Decides.{nat_tests}
use Rattle.lines.specs.Line.{is_count}
use Rattle.commands.specs.Command.{outward_of}
use Rattle.commands.proofs.outward_line.Goals as goal

pub returns-then-l-ne2 : goal.returns-then-l-ne2
unfolding outward_of
returns-then-l-ne2 c = grind (arith, nat_tests, common_steps)

pub returns-in_err-count : goal.returns-in_err-count
unfolding outward_of
returns-in_err-count c = grind (arith, nat_tests, common_steps)

pub returns : goal.returns
unfolding outward_of is_count
returns c = grind (arith, nat_tests, common_steps)
