use mathlib.Core.Path.{refl, ◌∙◌}
use borrow.Author.Rules.{rules}
use mir.Syntax.{w16}
use Rattle.fixed.proofs.Number.{passed}
use Rattle.adpcm.proofs.Laws.{part_none, part_byte, part_all, header_shift}
use Rattle.adpcm.proofs.decode.Goals as goal

pub of-coding-requires : goal.of-coding-requires
of-coding-requires c = search header_shift

pub loop-i-init : goal.loop-i-init
loop-i-init c = (refl, part_none _ _ (c.of-coding.ensures ∙ c.header_of.ensures))

pub loop-i-preserved : goal.loop-i-preserved
loop-i-preserved c =
    let v = c.loop-i.invariant in
    (search rules, part_byte _ _ v.1 (search rules) v.0 c.loop-i-test.true (passed w16 c.sample-x.type_inv c.sample-x.ensures) c.then-between.ensures (passed w16 c.sample-y.type_inv c.sample-y.ensures) (search rules))

pub returns : goal.returns
returns c = search (part_all, rules)
