use native.Mathlib.Omega.{arith}
use Rattle.bank.proofs.Laws.{good_is, good_told}
use Rattle.bank.proofs.Finds.{find_title_damaged, find_house_damaged, find_title, find_house, find_none}
use Rattle.bank.proofs.find.Goals as goal

pub returns-in_err-check : goal.returns-in_err-check
returns-in_err-check c = find_title_damaged _ _ _ _ c.from_residual.ensures.1 (good_told _ c.in_err-check.ensures)

pub returns-in_err-check-2 : goal.returns-in_err-check-2
returns-in_err-check-2 c = find_house_damaged _ _ _ _ c.from_residual-in_err-check-2.ensures.1 (good_told _ c.in_err-check-2.ensures)

pub entry_count-requires : goal.entry_count-requires
entry_count-requires c = (good_is _ (good_told _ c.in_ok-check.ensures)).header

pub find_in-requires : goal.find_in-requires
find_in-requires c = (good_told _ c.in_ok-check.ensures, omega (arith, c.entry_count.ensures))

pub returns-then-n-entry_count : goal.returns-then-n-entry_count
returns-then-n-entry_count c =
    find_title _ _ _ (good_told _ c.in_ok-check.ensures) (good_told _ c.in_ok-check-2.ensures) c.entry_count.ensures c.if-n-entry_count.true c.find_in.ensures

pub entry_count-requires-2 : goal.entry_count-requires-2
entry_count-requires-2 c = (good_is _ (good_told _ c.in_ok-check-2.ensures)).header

pub find_in-requires-then-n-entry_count-2 : goal.find_in-requires-then-n-entry_count-2
find_in-requires-then-n-entry_count-2 c = (good_told _ c.in_ok-check-2.ensures, omega (arith, c.entry_count-2.ensures))

pub returns-then-n-entry_count-2 : goal.returns-then-n-entry_count-2
returns-then-n-entry_count-2 c =
    find_house _ _ _ (good_told _ c.in_ok-check.ensures) (good_told _ c.in_ok-check-2.ensures) c.entry_count.ensures c.if-n-entry_count.false c.entry_count-2.ensures c.if-n-entry_count-2.true c.find_in-then-n-entry_count-2.ensures

pub returns : goal.returns
returns c =
    find_none _ _ _ (good_told _ c.in_ok-check.ensures) (good_told _ c.in_ok-check-2.ensures) c.entry_count.ensures c.if-n-entry_count.false c.entry_count-2.ensures c.if-n-entry_count-2.false
