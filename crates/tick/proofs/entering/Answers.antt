use Rattle.std.proofs.Common.{◌≡◌, to_z-of_z, w16, w32, to_z, of_z, rules}
use Rattle.fixed.proofs.Number.{passed}
use Rattle.tick.proofs.Parts.{entering_right, entering_left}
use Rattle.tick.proofs.entering.Goals as goal

pub returns-then-rightward : goal.returns-then-rightward
returns-then-rightward c =
    let x : to_z w32 (of_z w32 c.args.sums.wet.right) ≡ c.args.sums.wet.right = search (rules, c.struct_told-1.given) in
    entering_right _ _ _ _ _ c.if-rightward.true (to_z-of_z c.ranges.right) (passed w32 c.cd.type_inv c.cd.ensures.0) x (passed w16 c.input.type_inv c.input.ensures)

pub returns : goal.returns
returns c =
    let x : to_z w32 (of_z w32 c.args.sums.wet.left) ≡ c.args.sums.wet.left = search (rules, c.struct_told-2-1.given) in
    entering_left _ _ _ _ _ c.if-rightward.false (to_z-of_z c.ranges.left) (passed w32 c.cd-2.type_inv c.cd-2.ensures.0) x (passed w16 c.input-2.type_inv c.input-2.ensures)
