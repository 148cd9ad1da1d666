use Rattle.xa.proofs.Laws.{number_14, number_13, number_0, number_12}
use Rattle.xa.proofs.accept.Goals.{then-sector-ne2304-via-then-sector-ne2304, then-sector-ne2304-via-else-sector-ne2304+then-out-ne4032}
use Rattle.xa.proofs.accept.Goals as goal

pub returns-then-sector-ne2304 : goal.returns-then-sector-ne2304
returns-then-sector-ne2304 c =
    let a = c.args in
    number_14 a.sector.now a.out.now a.eight_bit (elim c.then-sector-ne2304.branch [
      | then-sector-ne2304-via-then-sector-ne2304 w ↦ λ e f. w.if-sector-ne2304.true e
      | then-sector-ne2304-via-else-sector-ne2304+then-out-ne4032 w ↦ λ e f. w.if-out-ne4032.true f
    ])

pub returns-then-eight_bit : goal.returns-then-eight_bit
returns-then-eight_bit c = search number_13

pub returns-then-not-are_copied : goal.returns-then-not-are_copied
returns-then-not-are_copied c = search number_12

pub returns : goal.returns
returns c = search number_0
