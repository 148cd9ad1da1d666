use borrow.Author.Rules.{rules}
use Rattle.little_endian.specs.Bytes.{half_at, word_at}
use Rattle.little_endian.proofs.word_at.Goals as goal

pub returns : goal.returns
unfolding word_at half_at
returns c = search rules
