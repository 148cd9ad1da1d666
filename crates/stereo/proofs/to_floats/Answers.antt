use mir.Facts.{to_z-of_z}
use Rattle.stereo.proofs.to_floats.Goals as goal

pub returns : goal.returns
returns c =
    let f = c.ranges in
    rw (c.to_float.ensures.0, c.to_float-2.ensures.0, to_z-of_z f.left, to_z-of_z f.right)
