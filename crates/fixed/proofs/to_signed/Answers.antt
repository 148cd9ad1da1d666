use Rattle.std.proofs.Common.{rules}
use Rattle.fixed.proofs.TwosComplement.{cast_signed_is}
use Rattle.fixed.proofs.to_signed.Goals as goal

pub returns : goal.returns
returns c = search (rules, cast_signed_is)
