use mathlib.Core.Path.{ap, ◌∙◌}
use mir.Syntax.{w16}
use Rattle.fixed.specs.Signed.{signed}
use Rattle.fixed.proofs.Number.{passed}
use Rattle.reverb.specs.Reverb.{volume_at}
use Rattle.reverb_turn.proofs.volume.Goals as goal

pub returns : goal.returns
unfolding volume_at
returns c = passed w16 c.to_signed.type_inv (c.to_signed.ensures ∙ ap (signed 16) c.at.ensures)
