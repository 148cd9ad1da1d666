use mathlib.Core.Path.{refl}
use Rattle.calls.specs.declared.Refusal.TheVariants.{NotAState}
use Rattle.calls.proofs.Kept.{other_not, lent_lent}
use Rattle.calls.proofs.Refused.{numbered}
use Rattle.calls_transfer.proofs.Transfers.{move_fits, ready, in_no, in_even, in_yes}
use Rattle.calls_transfer.proofs.tenonwhisk_transfer_in.Goals as goal

pub returns-in_default : goal.returns-in_default
returns-in_default c = in_no _ _ _ _ (other_not _ _ c.in_default.ensures.cases) (numbered NotAState refl) c.refused.ensures

pub returns-in-Err : goal.returns-in-Err
returns-in-Err c = rw (← c.in-Some.ensures.cases.same) (in_no _ _ _ _ c.in-Err.ensures (numbered _ refl) c.refused-in-Err.ensures)

pub overflow_cast-count : goal.overflow_cast-count
overflow_cast-count c = move_fits _ _ _ _ _ c.in_default-check.ensures refl

pub transfer-a-requires : goal.transfer-a-requires
transfer-a-requires c = (ready _ _ _ _ c.in_default-check.ensures refl).below

pub watch-w-requires : goal.watch-w-requires
watch-w-requires c = (ready _ _ _ _ c.in_default-check.ensures refl).some

pub inward-m-requires : goal.inward-m-requires
inward-m-requires c =
    let e = c.in_default-check.ensures in
    rw (c.size-size.ensures, c.transfer-a.ensures) (lent_lent _ _ _ _ e refl, (ready _ _ _ _ e refl).start)

pub accepted-requires : goal.accepted-requires
accepted-requires c =
    let e = c.in_default-check.ensures in
    ((ready _ _ _ _ e refl).formed, in_even _ _ _ _ e refl c.size-size.ensures c.transfer-a.ensures c.watch-w.ensures c.inward-m.ensures)

pub returns : goal.returns
returns c =
    let e = c.in_default-check.ensures in
    let q = c.accepted.ensures in
    rw (← c.in-Some.ensures.cases.same) (in_yes _ _ _ _ e refl c.size-size.ensures c.transfer-a.ensures c.watch-w.ensures c.inward-m.ensures q.0 q.1 (record { each = λ i. (c.type_inv.state i).fits }))
