use borrow.Author.Rules.{rules}
use Rattle.layout.proofs.Made.{fresh_none, fresh_more, fresh_end, fresh_aligned}
use Rattle.layout.proofs.put_fresh.Goals as goal

pub loop-n-init : goal.loop-n-init
loop-n-init c = fresh_none _ c.requires

pub put_voice-requires : goal.put_voice-requires
put_voice-requires c = let e = fresh_aligned c.fresh.ensures in (search rules, c.loop-n.invariant.formed, e.multiple, e.below)

pub loop-n-preserved : goal.loop-n-preserved
loop-n-preserved c = fresh_more _ _ c.loop-n.invariant c.fresh.ensures c.put_voice.ensures

pub returns : goal.returns
returns c = fresh_end _ _ c.loop-n.invariant (search rules) c.loop-n-test.false
