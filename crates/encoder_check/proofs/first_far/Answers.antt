use mathlib.Core.Path.{refl, ap}
use mathlib.Core.Bool.{not}
use native.Mathlib.Omega.{arith}
use borrow.Author.Rules.{rules}
use borrow.Author.Tests.{not-true, not-false}
use Rattle.fixed.proofs.Bools.{first_more, first_fails, first_none}
use Rattle.fixed.proofs.Number.{passed}
use Rattle.encoder_check.proofs.Laws.{near_by, found_at, found_none}
use Rattle.encoder_check.proofs.first_far.Goals as goal

pub loop-j-init : goal.loop-j-init
loop-j-init c = refl

pub returns-then-not-is_within : goal.returns-then-not-is_within
returns-then-not-is_within c =
    let a = c.args in
    found_at (omega arith) (first_fails _ 28 _ c.loop-j.invariant (omega arith) (near_by a.largest a.samples a.originals.now a.at c.loop-j.j c.is_within.ensures (not-true _ (ap not c.if-not-is_within.true)) (search (passed, rules)) (search (passed, rules))))

pub loop-j-preserved : goal.loop-j-preserved
loop-j-preserved c =
    let a = c.args in
    first_more _ 28 _ c.loop-j.invariant (omega arith) (near_by a.largest a.samples a.originals.now a.at c.loop-j.j c.is_within.ensures (not-false _ (ap not c.if-not-is_within.false)) (search (passed, rules)) (search (passed, rules)))

pub returns : goal.returns
returns c = found_none (first_none _ 28 _ c.loop-j.invariant (omega arith) (omega arith))
