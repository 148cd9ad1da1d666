use mathlib.Core.Path.{ap}
use mathlib.Core.Bool.{not}
use Rattle.calls.proofs.Kept.{tagged_not, tagged_is, state_is_2, state_is_0}
use Rattle.calls.proofs.check_state.Goals as goal

pub returns-in_default : goal.returns-in_default
returns-in_default c = (tagged_not _ _ c.in_default.ensures, tt {0})

pub check-requires : goal.check-requires
check-requires c = tagged_is _ c.in-Some.ensures

pub returns-then-not-check : goal.returns-then-not-check
returns-then-not-check c = (state_is_2 _ c.in-Some.ensures c.check.ensures (ap not c.if-not-check.true), tt {0})

pub returns : goal.returns
returns c = (state_is_0 _ c.in-Some.ensures c.check.ensures (ap not c.if-not-check.false), c.in-Some.ensures.0)
