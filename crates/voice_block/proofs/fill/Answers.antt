use borrow.Author.Rules.{rules}
use Rattle.voice_block.proofs.Loads.{filled_as}
use Rattle.voice_block.proofs.fill.Goals as goal

pub returns : goal.returns
returns c = search (filled_as, rules)
