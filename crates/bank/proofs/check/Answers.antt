use mathlib.Core.Path.{sym, ◌∙◌}
use native.Mathlib.Omega.{arith}
use Rattle.bank.proofs.Laws.{entry_at_tested, entry_inside, below_none, below_more, tested_header, checked, check_header, check_entry, check_all}
use Rattle.bank.proofs.check.Goals as goal

pub returns-then-not-has_header : goal.returns-then-not-has_header
returns-then-not-has_header c = check_header _ c.has_header.ensures c.if-not-has_header.true

pub entry_count-count-requires : goal.entry_count-count-requires
entry_count-count-requires c = tested_header _ c.has_header.ensures c.if-not-has_header.false

pub loop-n-init : goal.loop-n-init
loop-n-init c = below_none _

pub entry_at-requires : goal.entry_at-requires
entry_at-requires c =
    let h = checked _ c.has_header.ensures c.if-not-has_header.false in
    entry_inside h (omega (arith, c.entry_count-count.ensures))

pub overflow_cast-result : goal.overflow_cast-result
overflow_cast-result c =
    let h = checked _ c.has_header.ensures c.if-not-has_header.false in
    omega (arith, h.most, c.entry_count-count.ensures)

pub returns-then-not-is_entry : goal.returns-then-not-is_entry
returns-then-not-is_entry c =
    let e = entry_at_tested _ _ c.entry_count-count.ensures c.header_end-end.ensures c.entry_at.ensures c.is_entry.ensures in
    check_entry _ c.has_header.ensures c.if-not-has_header.false _ c.loop-n.invariant (sym e ∙ c.if-not-is_entry.true) (omega (arith, c.entry_count-count.ensures))

pub loop-n-preserved : goal.loop-n-preserved
loop-n-preserved c =
    let e = entry_at_tested _ _ c.entry_count-count.ensures c.header_end-end.ensures c.entry_at.ensures c.is_entry.ensures in
    below_more _ _ c.loop-n.invariant (sym e ∙ c.if-not-is_entry.false)

pub returns : goal.returns
returns c =
    check_all _ c.has_header.ensures c.if-not-has_header.false _ c.loop-n.invariant (omega (arith, c.entry_count-count.ensures)) (omega (arith, c.entry_count-count.ensures))
