use borrow.Author.Rules.{rules}
use Rattle.reverb.specs.Reverb.{bytes_at}
use Rattle.reverb_turn.proofs.bytes.Goals as goal

pub returns : goal.returns
unfolding bytes_at
returns c = search rules
