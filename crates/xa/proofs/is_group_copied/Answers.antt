use mathlib.Core.Path.{◌∙◌, ap₂}
use native.Mathlib.Omega.{arith}
use lib.Dec.{eqb}
use borrow.Author.Rules.{rules}
use Rattle.std.specs.Cmp.Lexicographic.{pointwise}
use Rattle.xa.proofs.Laws.{word_of, group_by}
use Rattle.xa.proofs.is_group_copied.Goals as goal

pub returns : goal.returns
returns c =
    let xs = c.args.group.now in
    let word = word_of xs (search rules) c.as_chunks.ensures.front in
    group_by xs (search rules)
    (c.eq.ensures ∙ ap₂ (pointwise eqb) (word 0 (omega arith)) (word 1 (omega arith)))
    (c.eq-2.ensures ∙ ap₂ (pointwise eqb) (word 3 (omega arith)) (word 2 (omega arith)))
