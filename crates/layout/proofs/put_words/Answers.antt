use borrow.Author.Rules.{rules}
use lib.ListN.{get_or}
use Rattle.layout.proofs.Put.{words_none, words_more, words_end, from_place, from_zero}
use Rattle.layout.proofs.put_words.Goals as goal

pub loop-w-init : goal.loop-w-init
loop-w-init c = words_none _ _ _ _

pub loop-w-preserved : goal.loop-w-preserved
loop-w-preserved c = words_more _ _ _ _ _ _ _ c.loop-w.invariant (from_place _ _ c.place.ensures.0) (from_zero (λ u. get_or c.args.words.now u 0) _)

pub returns : goal.returns
returns c = words_end _ _ _ _ _ _ c.loop-w.invariant (search rules) (search rules)
