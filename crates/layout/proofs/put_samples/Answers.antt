use borrow.Author.Rules.{rules}
use borrow.Author.Count.{below_none, below_more}
use mir.Syntax.{w16}
use mir.Val.{SFits}
use mir.Facts.{to_z-of_z}
use lib.IntN.{pos}
use lib.ListN.{get_or}
use Rattle.fixed.proofs.Number.{arg}
use Rattle.layout.proofs.Put.{words_none, words_more, words_end, high_place, sample_word_lem}
use Rattle.layout.proofs.put_samples.Goals as goal

pub loop-k-init : goal.loop-k-init
loop-k-init c = (words_none _ _ _ _, below_none _)

pub loop-k-preserved : goal.loop-k-preserved
loop-k-preserved c =
    let v = c.loop-k.invariant in
    let xs = c.args.samples.now in
    let f : SFits w16 (get_or xs c.loop-k.k (pos 0)) = search (rules, c.to_bits-arg-1.given) in
    (words_more _ _ _ _ _ _ _ v.0 (high_place _ _) (sample_word_lem xs c.loop-k.k c.to_bits.ensures (to_z-of_z f)), below_more _ _ v.1 (arg f).within)

pub returns : goal.returns
returns c = let v = c.loop-k.invariant in (words_end _ _ _ _ _ _ v.0 (search rules) (search rules), record { count = search rules; in16 = λ k h. v.1 k (search rules) })
