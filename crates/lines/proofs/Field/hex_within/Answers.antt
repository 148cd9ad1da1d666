use Rattle.std.proofs.Common.{arith}
use Rattle.std.proofs.lemmas.Grind.{common_steps}
use Rattle.lines.specs.Line.{is_hex}
use Rattle.lines.proofs.Field.hex_within.Goals as goal

pub returns-then-is_hex : goal.returns-then-is_hex
unfolding is_hex
returns-then-is_hex c = grind (arith, common_steps)

pub returns-else-is_hex : goal.returns-else-is_hex
returns-else-is_hex c = grind (arith, common_steps)
