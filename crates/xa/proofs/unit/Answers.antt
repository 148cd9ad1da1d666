use mathlib.Core.Path.{◌∙◌}
use borrow.Author.Rules.{rules}
use mir.Syntax.{w16}
use Rattle.fixed.proofs.Number.{passed}
use Rattle.xa.proofs.Laws.{part_begun, part_more, part_all, header_shift, nibble_below}
use Rattle.xa.proofs.unit.Goals as goal

pub of-coding-requires : goal.of-coding-requires
of-coding-requires c = search header_shift

pub loop-j-init : goal.loop-j-init
loop-j-init c = part_begun (c.of-coding.ensures ∙ c.unit_header.ensures) (search rules)

pub sample-x-requires : goal.sample-x-requires
sample-x-requires c = search nibble_below

pub loop-j-preserved : goal.loop-j-preserved
loop-j-preserved c = part_more c.loop-j.invariant c.loop-j-test.true c.nibble.ensures (passed w16 c.sample-x.type_inv c.sample-x.ensures) (search rules)

pub returns : goal.returns
returns c = part_all c.loop-j.invariant c.loop-j-test.false
