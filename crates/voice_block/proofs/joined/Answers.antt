use Rattle.voice_block.proofs.Loads.{joined_as}
use Rattle.std.proofs.Common.{rules, refl}
use Rattle.voice_block.proofs.joined.Goals as goal

pub returns : goal.returns
returns c = joined_as _ c.args.before c.copy_from_slice.ensures.after c.copy_from_slice-2.ensures.after (search rules) refl
