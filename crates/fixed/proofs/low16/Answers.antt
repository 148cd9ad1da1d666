use mathlib.Core.Path.{◌∙◌, ap}
use lib.IntN.{pos, nat_abs}
use mir.Syntax.{w32}
use mir.Facts.{to_z-of_z}
use Rattle.fixed.specs.Signed.{bits_of}
use Rattle.fixed.proofs.Number.{passed}
use Rattle.fixed.proofs.TwosComplement.{rem_euclid_is}
use Rattle.fixed.proofs.low16.Goals as goal

pub returns : goal.returns
returns c =
    ap nat_abs (passed w32 c.rem_euclid.type_inv (c.rem_euclid.ensures.value ∙ rem_euclid_is _ ∙ ap (λ z. pos (bits_of 16 z)) (to_z-of_z c.ranges.x)))
