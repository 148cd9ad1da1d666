use Rattle.register_write.proofs.Work.{start_in, started}
use borrow.Author.Rules.{rules}
use Rattle.register_write.proofs.start.Goals as goal

pub put_voice-requires : goal.put_voice-requires
put_voice-requires c = let r = start_in _ _ _ c.requires.2 c.size-size.ensures c.key_on-v.ensures in (search rules, search rules, r.0, r.1)

pub returns : goal.returns
returns c = search started
