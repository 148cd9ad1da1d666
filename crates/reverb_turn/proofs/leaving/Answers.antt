use mir.Syntax.{w16, w32}
use mir.Facts.{to_z-of_z}
use Rattle.fixed.proofs.Number.{ok, is, passed}
use Rattle.reverb.proofs.Turns.{leaving_as}
use Rattle.reverb_turn.proofs.leaving.Goals as goal

pub returns : goal.returns
returns c =
    passed w16 c.saturate.type_inv (leaving_as _ _ _ c.side.ensures.0 (to_z-of_z c.ranges.out) c.scaled.ensures.0 (is (ok w32 _ c.scaled.type_inv)) c.saturate.ensures)
