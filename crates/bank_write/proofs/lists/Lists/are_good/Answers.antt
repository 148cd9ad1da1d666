use borrow.Author.Rules.{rules}
use Rattle.bank.proofs.Laws.{below_none}
use Rattle.bank_write.specs.Handed.{handed}
use Rattle.bank_write.proofs.Bytes.{entries_more, entries_not, entries_all}
use Rattle.bank_write.proofs.lists.Lists.are_good.Goals as goal

pub loop-n-init : goal.loop-n-init
loop-n-init c = below_none _

pub returns-then-not-is_entry : goal.returns-then-not-is_entry
returns-then-not-is_entry c =
    entries_not (handed c.args.self.now) _ _ c.count-count.ensures c.header_end-end.ensures c.entry.ensures c.is_entry.ensures c.loop-n.invariant c.if-not-is_entry.true c.loop-n-test.true

pub loop-n-preserved : goal.loop-n-preserved
loop-n-preserved c =
    entries_more (handed c.args.self.now) _ _ c.count-count.ensures c.header_end-end.ensures c.entry.ensures c.is_entry.ensures c.loop-n.invariant c.if-not-is_entry.false

pub returns : goal.returns
returns c = entries_all (handed c.args.self.now) _ _ c.count-count.ensures c.loop-n.invariant (search rules) c.loop-n-test.false
