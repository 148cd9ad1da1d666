use mathlib.Core.Path.{ap}
use mathlib.Core.Bool.{not}
use Rattle.calls.proofs.Kept.{tagged_not, tagged_is, lent_is_1, lent_is_2, lent_is_0}
use Rattle.calls.proofs.check_lent.Goals as goal

pub returns-in_default : goal.returns-in_default
returns-in_default c = (tagged_not _ _ c.in_default.ensures, tt {0})

pub returns-then-ram-size : goal.returns-then-ram-size
returns-then-ram-size c = (lent_is_1 _ c.in-Some.ensures _ _ c.size-size.ensures c.if-ram-size.true, tt {0})

pub check-requires : goal.check-requires
check-requires c = tagged_is _ c.in-Some.ensures

pub returns-then-not-check : goal.returns-then-not-check
returns-then-not-check c = (lent_is_2 _ c.in-Some.ensures _ _ c.size-size.ensures c.check.ensures c.if-ram-size.false (ap not c.if-not-check.true), tt {0})

pub returns : goal.returns
returns c = (lent_is_0 _ c.in-Some.ensures _ _ c.size-size.ensures c.check.ensures c.if-ram-size.false (ap not c.if-not-check.false), c.in-Some.ensures.0)
