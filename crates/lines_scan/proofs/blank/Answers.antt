use Rattle.std.proofs.Common.{arith}
use Rattle.std.proofs.lemmas.Bool.Decides.{nat_tests}
use Rattle.lines.specs.Fields.{blank}
use Rattle.lines_scan.proofs.blank.Goals as goal

pub returns-in-32 : goal.returns-in-32
unfolding blank
returns-in-32 c = grind (arith, nat_tests)

pub returns-in_default : goal.returns-in_default
unfolding blank
returns-in_default c = grind (arith, nat_tests)
