use mathlib.Core.Path.{◌≡◌}
use mir.Syntax.{w16}
use mir.Val.{to_z, of_z}
use mir.Facts.{to_z-of_z}
use Rattle.calls_ticks.proofs.Floats.{floats_as}
use borrow.Author.Rules.{rules}
use Rattle.calls_ticks.proofs.tenonwhisk_tick_floats.Goals as goal

pub returns : goal.returns
returns c =
    let x : to_z w16 (of_z w16 c.tenonwhisk_tick-t.result.left) ≡ c.tenonwhisk_tick-t.result.left = search (rules, c.struct_told-1.given) in
    let y : to_z w16 (of_z w16 c.tenonwhisk_tick-t.result.right) ≡ c.tenonwhisk_tick-t.result.right = search (rules, c.struct_told-2-1.given) in
    floats_as _ _ _ _ _ (to_z-of_z c.ranges.left) (to_z-of_z c.ranges.right) c.tenonwhisk_tick-t.ensures c.to_floats-p.ensures x y
