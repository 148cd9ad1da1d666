use Rattle.fast_path.proofs.Stays.{tone_as}
use Rattle.fast_path.proofs.tone.Goals as goal

pub returns : goal.returns
returns c =
    tone_as _ _ c.requires c.args.all.now.modulated c.args.all.now.noisy c.of_voice.ensures c.has.ensures c.has-2.ensures
