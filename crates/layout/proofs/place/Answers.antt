use lib.Dec.{leb}
use native.Mathlib.Omega.{arith}
use borrow.Author.Tests.{leb-true}
use Rattle.fixed.proofs.Bools.{and_first, and_rest}
use Rattle.layout.proofs.Put.{wait_place, array_place}
use Rattle.layout.proofs.place.Goals as goal

pub overflow_sub-result : goal.overflow_sub-result
overflow_sub-result c = let w = c.args.w in let h = leb-true 2 w (and_first (leb 2 w) (leb w 3) c.if-w.true) in omega arith

pub returns-then-w : goal.returns-then-w
returns-then-w c =
    let w = c.args.w in
    let a = and_first (leb 2 w) (leb w 3) c.if-w.true in
    let b = and_rest (leb 2 w) (leb w 3) c.if-w.true in
    let h = leb-true 2 w a in
    let k = leb-true w 3 b in
    (wait_place _ _ a b, omega arith)

pub returns : goal.returns
returns c = (array_place _ _ c.requires.1 c.if-w.false, omega arith)
