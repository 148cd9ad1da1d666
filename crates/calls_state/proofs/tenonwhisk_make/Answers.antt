use Rattle.calls_state.proofs.Calls.{make_2, make_1, make_0, make_least}
use Rattle.calls_state.proofs.tenonwhisk_make.Goals as goal

pub returns-then-good : goal.returns-then-good
returns-then-good c = make_2 _ _ c.size_ok-good.ensures c.in_default.ensures.cases c.if-good.true

pub returns-in_default : goal.returns-in_default
returns-in_default c = make_1 _ _ c.size_ok-good.ensures c.in_default.ensures.cases c.if-good.false

pub returns-then-good-2 : goal.returns-then-good-2
returns-then-good-2 c =
    make_0 _ _ c.size_ok-good.ensures c.in-Some.ensures.cases.long c.if-good-2.true c.fresh.ensures (record { each = λ i. (c.type_inv.state i).fits })

pub returns : goal.returns
returns c =
    make_least _ _ c.size_ok-good.ensures c.in-Some.ensures.cases.long c.if-good-2.false c.fresh-2.ensures (record { each = λ i. (c.type_inv.state i).fits })
