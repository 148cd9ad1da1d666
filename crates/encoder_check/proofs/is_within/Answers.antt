use mir.Facts.{to_z-of_z}
use Rattle.encoder_check.specs.Check.{is_within}
use Rattle.encoder_check.proofs.is_within.Goals as goal

pub returns : goal.returns
unfolding is_within
returns c = rw (c.abs_diff.ensures, to_z-of_z c.ranges.x, to_z-of_z c.ranges.y)
