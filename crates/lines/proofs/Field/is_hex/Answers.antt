use Rattle.std.proofs.Common.{rules}
use Rattle.lines.specs.Line.{is_hex}
use Rattle.lines.proofs.Field.is_hex.Goals as goal

pub returns : goal.returns
unfolding is_hex
returns c = search rules
