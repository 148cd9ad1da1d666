use borrow.Author.Rules.{rules}
use Rattle.little_endian.specs.Bytes.{half_at}
use Rattle.little_endian.proofs.half_at.Goals as goal

pub returns : goal.returns
unfolding half_at
returns c = search rules
