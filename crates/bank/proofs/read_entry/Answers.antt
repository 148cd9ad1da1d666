use native.Mathlib.Omega.{arith}
use Rattle.bank.proofs.Laws.{entry_inside, tested_header, checked, fields_damaged, fields_none, fields_read}
use Rattle.bank.proofs.read_entry.Goals as goal

pub returns-then-not-has_header : goal.returns-then-not-has_header
returns-then-not-has_header c = fields_damaged _ c.has_header.ensures c.if-not-has_header.true _

pub entry_count-requires : goal.entry_count-requires
entry_count-requires c = tested_header _ c.has_header.ensures c.if-not-has_header.false

pub returns-then-entry_count-n : goal.returns-then-entry_count-n
returns-then-entry_count-n c =
    fields_none _ c.has_header.ensures c.if-not-has_header.false _ c.entry_count.ensures (omega (arith, c.if-entry_count-n.true))

pub entry_at-requires : goal.entry_at-requires
entry_at-requires c =
    let h = checked _ c.has_header.ensures c.if-not-has_header.false in
    entry_inside h (omega (arith, c.entry_count.ensures))

pub returns : goal.returns
returns c =
    fields_read _ c.has_header.ensures c.if-not-has_header.false _ c.entry_count.ensures c.if-entry_count-n.false c.entry_at.ensures
