use Rattle.bank_write.proofs.Bytes.{write_unsized, write_bad, write_short, write_done}
use Rattle.bank_write.proofs.write.Goals as goal

pub returns-in_default : goal.returns-in_default
returns-in_default c = write_unsized _ _ _ c.in_default.ensures

pub returns-then-not-are_good : goal.returns-then-not-are_good
returns-then-not-are_good c =
    let s = c.in-Some.ensures in
    write_bad _ _ _ s.0 s.1 c.count.ensures c.header_end-end.ensures c.are_good.ensures c.if-not-are_good.true

pub returns-then-out-length : goal.returns-then-out-length
returns-then-out-length c =
    let s = c.in-Some.ensures in
    write_short _ _ _ s.0 s.1 c.count.ensures c.header_end-end.ensures c.are_good.ensures c.if-not-are_good.false c.if-out-length.true

pub returns : goal.returns
returns c =
    let s = c.in-Some.ensures in
    write_done _ _ _ s.0 s.1 c.count.ensures c.header_end-end.ensures c.are_good.ensures c.if-not-are_good.false c.if-out-length.false c.put_header.ensures c.put_data.ensures
