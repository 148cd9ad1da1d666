use Prim.Native.Nat.{◌%◌}
use lib.Dec.{eqb}
use borrow.Author.Tests.{eqb-true}
use Rattle.fixed.proofs.Bools.{and_first, and_rest}
use Rattle.access_block.proofs.Whole.{whole_does}
use Rattle.access_block.proofs.load.Goals as goal

pub returns-then-a-marks : goal.returns-then-a-marks
returns-then-a-marks c =
    let t = c.if-a-marks.true in
    let b = eqb (c.args.a.0 % 16) 0 in
    whole_does _ _ _ _ _ _ _ c.requires.0 c.requires.1 (eqb-true _ _ (and_first b _ t)) (eqb-true _ _ (and_rest b _ t)) c.block_at.ensures.0 c.block_at.ensures.1 c.noticed.ensures
