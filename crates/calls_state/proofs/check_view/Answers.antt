use mathlib.Core.Path.{ap}
use mathlib.Core.Bool.{not}
use Rattle.calls.proofs.Kept.{tagged_is}
use Rattle.calls_state.proofs.Views.{view_untagged, view_1, view_2, view_sized, view_8, view_0}
use Rattle.calls_state.proofs.check_view.Goals as goal

pub returns-in_default : goal.returns-in_default
returns-in_default c = view_untagged _ _ _ c.in_default.ensures

pub returns-then-ram-size : goal.returns-then-ram-size
returns-then-ram-size c = view_1 _ _ _ c.in-Some.ensures c.size-size.ensures c.if-ram-size.true

pub check-requires : goal.check-requires
check-requires c = tagged_is _ c.in-Some.ensures

pub returns-then-not-check : goal.returns-then-not-check
returns-then-not-check c = view_2 _ _ _ c.in-Some.ensures c.size-size.ensures c.if-ram-size.false c.check.ensures (ap not c.if-not-check.true)

pub overflow_sub-size : goal.overflow_sub-size
overflow_sub-size c = view_sized _ c.size-size.ensures c.check.ensures (ap not c.if-not-check.false)

pub returns-then-address-size : goal.returns-then-address-size
returns-then-address-size c =
    view_8 _ _ _ c.in-Some.ensures c.size-size.ensures c.if-ram-size.false c.check.ensures (ap not c.if-not-check.false) c.if-address-size.true

pub returns : goal.returns
returns c =
    view_0 _ _ _ c.in-Some.ensures c.size-size.ensures c.if-ram-size.false c.check.ensures (ap not c.if-not-check.false) c.if-address-size.false
