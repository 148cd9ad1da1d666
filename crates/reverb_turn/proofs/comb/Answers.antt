use Rattle.reverb.proofs.Turns.{comb_does}
use Rattle.reverb_turn.proofs.comb.Goals as goal

pub returns : goal.returns
returns c =
    comb_does _ _ _ _ c.side.ensures.0 c.bytes.ensures.0 c.fetch.ensures
