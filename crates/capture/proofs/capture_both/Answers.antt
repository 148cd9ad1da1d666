use mir.Facts.{to_z-of_z}
use Rattle.capture.proofs.Captures.{both_does}
use Rattle.capture.proofs.capture_both.Goals as goal

pub returns : goal.returns
returns c =
    both_does _ _ _ _ (to_z-of_z c.ranges.x) (to_z-of_z c.ranges.y) c.capture_at-first.ensures c.capture_at.ensures
