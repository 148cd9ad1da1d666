use mathlib.Core.Path.{◌≡◌}
use borrow.Author.Rules.{rules}
use mir.Val.{to_z, of_z}
use mir.Syntax.{w16}
use mir.Facts.{to_z-of_z}
use Rattle.capture.proofs.Captures.{capture_does}
use Rattle.capture.proofs.capture.Goals as goal

pub returns : goal.returns
returns c =
    let x : to_z w16 (of_z w16 c.args.c.first) ≡ c.args.c.first = search (rules, c.struct_told-1.given) in
    let y : to_z w16 (of_z w16 c.args.c.third) ≡ c.args.c.third = search (rules, c.struct_told-2-1.given) in
    capture_does _ _ _ _ (to_z-of_z c.ranges.left) (to_z-of_z c.ranges.right) x y c.capture_both-cd.ensures c.capture_both.ensures
