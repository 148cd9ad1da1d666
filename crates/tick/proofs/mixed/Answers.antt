use Rattle.std.proofs.Common.{◌≡◌, to_z-of_z, w16, w32, to_z, of_z, rules}
use Rattle.fixed.proofs.Number.{passed}
use Rattle.tick.proofs.Parts.{side_as, pair_as}
use Rattle.tick.proofs.mixed.Goals as goal

pub returns : goal.returns
returns c =
    let x : to_z w32 (of_z w32 c.args.sums.dry.left) ≡ c.args.sums.dry.left = search (rules, c.struct_told-1.given) in
    let y : to_z w16 (of_z w16 c.args.held.left) ≡ c.args.held.left = search (rules, c.struct_told-2-1.given) in
    let z : to_z w32 (of_z w32 c.args.sums.dry.right) ≡ c.args.sums.dry.right = search (rules, c.struct_told-3-1.given) in
    let w : to_z w16 (of_z w16 c.args.held.right) ≡ c.args.held.right = search (rules, c.struct_told-4-1.given) in
    pair_as _ _ _ _ _ (passed w16 c.mix.type_inv (side_as _ _ _ _ _ 0x1B0 c.mix.ensures x y (passed w32 c.cd.type_inv c.cd.ensures.0) (to_z-of_z c.ranges.left))) (passed w16 c.mix-2.type_inv (side_as _ _ _ _ _ 0x1B2 c.mix-2.ensures z w (passed w32 c.cd-2.type_inv c.cd-2.ensures.0) (to_z-of_z c.ranges.right)))
