use Prim.Native.Nat.{◌≤◌}
use Rattle.layout.proofs.Put.{voice_holds}
use borrow.Author.Rules.{rules}
use Rattle.layout.proofs.put_voice.Goals as goal

pub returns : goal.returns
returns c =
    let flags : c.args.v.playing.flags ≤ 0xFF = search rules in
    voice_holds _ _ c.args.v c.requires.0 c.requires.1 c.requires.2 flags c.phase_number.ensures c.low.ensures c.high.ensures c.unit.ensures c.put_words.ensures c.put_samples.ensures.0 c.put_samples.ensures.1
