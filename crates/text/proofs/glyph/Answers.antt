use Rattle.text.proofs.Numbers.{glyph_is}
use Rattle.text.proofs.glyph.Goals as goal

pub returns : goal.returns
returns c = glyph_is c.args.d c.requires
