use mir.Syntax.{w16}
use mir.Facts.{to_z-of_z}
use Rattle.fixed.proofs.Parts.{fits_abs}
use Rattle.stereo.proofs.Exact.{float_exact, quotient_is}
use Rattle.stereo.proofs.to_float.Goals as goal

pub returns : goal.returns
returns c =
    let f = c.ranges.x in
    let e = quotient_is c.args.x (fits_abs w16 _ f) in
    rw (to_z-of_z f) (e, rw e (float_exact c.args.x (fits_abs w16 _ f)))
