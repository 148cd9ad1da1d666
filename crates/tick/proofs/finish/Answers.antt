use Rattle.std.proofs.Common.{◌∙◌, to_z-of_z, rules, w16}
use Rattle.soundram.proofs.Programs.{does_kept}
use Rattle.tick.proofs.Parts.{finish_does}
use Rattle.tick.proofs.finish.Goals as goal

pub shape_of-ram : goal.shape_of-ram
shape_of-ram c =
    (does_kept c.close-c.ensures).ram

pub shape_of-marks : goal.shape_of-marks
shape_of-marks c =
    (does_kept c.close-c.ensures).marks

pub returns : goal.returns
returns c =
    finish_does _ _ _ _ _ _ _ _ (to_z-of_z {w = w16} (search rules) ∙ c.cd_at-left.ensures) (to_z-of_z {w = w16} (search rules) ∙ c.cd_at-right.ensures) c.close-c.ensures c.put_pair.ensures c.at.ensures c.tick.ensures c.reported.ensures c.reported-2.ensures
