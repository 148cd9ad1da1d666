use mathlib.Core.Path.{◌∙◌, ap}
use lib.IntN.{nat_abs}
use mir.Syntax.{w32}
use mir.Facts.{to_z-of_z}
use Rattle.envelope.proofs.Levels.{clamped_is}
use Rattle.envelope.proofs.clamp.Goals as goal

pub returns : goal.returns
returns c =
    let x = to_z-of_z c.ranges.x in
    let e = to_z-of_z {w = w32} (record { sfits = c.clamp.type_inv }) ∙ c.clamp.ensures.value in
    ap nat_abs e ∙ rw x (clamped_is c.args.x)
