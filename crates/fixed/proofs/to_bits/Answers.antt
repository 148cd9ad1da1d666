use mathlib.Core.Path.{◌∙◌, ap}
use mir.Syntax.{w16}
use mir.Val.{of_z}
use mir.Facts.{to_z-of_z}
use native.Mathlib.Omega.{arith}
use Rattle.fixed.proofs.Parts.{of_fits}
use Rattle.fixed.proofs.TwosComplement.{cast_unsigned_is}
use Rattle.fixed.proofs.to_bits.Goals as goal

pub returns : goal.returns
returns c =
    let i = of_fits w16 c.args.s c.ranges.s in
    let t = i.top in
    let d = i.low in
    c.cast_unsigned.ensures ∙ ap (of_z w16) (to_z-of_z c.ranges.s) ∙ cast_unsigned_is c.args.s (omega arith) (omega arith)
