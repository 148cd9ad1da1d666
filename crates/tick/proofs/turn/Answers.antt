use Rattle.std.proofs.Common.{◌≡◌, arith, to_z-of_z, w16, to_z, of_z, rules}
use Rattle.fixed.proofs.Number.{ok, is}
use Rattle.tick.proofs.Parts.{area_in, turn_does}
use Rattle.tick.proofs.turn.Goals as goal

pub invariant_of-line : goal.invariant_of-line
invariant_of-line c =
    let p = c.requires in record { inside = area_in p.0.sized p.1 (rw (c.address_of-base.ensures, c.at.ensures)) }

pub turn-out-requires : goal.turn-out-requires
turn-out-requires c = c.requires.0

pub after-reverb-requires : goal.after-reverb-requires
after-reverb-requires c =
    let p = c.requires in let z = p.0.sized in omega (arith, p.1.most, z.most, z.least)

pub returns : goal.returns
returns c =
    let x : to_z w16 (of_z w16 c.turn-out.result.value) ≡ c.turn-out.result.value = search (rules, c.struct_told-1.given) in
    turn_does _ _ _ _ _ _ c.at.ensures c.address_of-base.ensures c.turning.ensures c.entering-x.ensures (to_z-of_z c.ranges.left) (to_z-of_z c.ranges.right) (is (ok w16 _ c.entering-x.type_inv)) c.turn-out.ensures c.after-reverb.ensures x
