use mir.Facts.{to_z-of_z}
use Rattle.pitch.proofs.Laws.{step_modulated, step_plain}
use Rattle.pitch.proofs.step.Goals as goal
use Rattle.pitch.proofs.step.Goals.{then-modulated, else-modulated}

pub returns : goal.returns
returns c =
    rw c.min.ensures (elim c.if-modulated.branch [ then-modulated w ↦ rw w.step-is (search (step_modulated, to_z-of_z)) | else-modulated w ↦ rw w.step-is (search step_plain) ])
