use mir.Syntax.{w16}
use Rattle.fixed.proofs.Number.{passed}
use Rattle.layout.proofs.Read.{sample_is}
use Rattle.layout.proofs.sample.Goals as goal

pub returns : goal.returns
returns c = sample_is _ _ c.requires.0 _ c.requires.1 (passed w16 c.to_signed.type_inv c.to_signed.ensures)
