use mathlib.Core.Path.{refl}
use Rattle.calls.specs.declared.Refusal.TheVariants.{NotAState}
use Rattle.calls.proofs.Kept.{other_not, lent_lent}
use Rattle.calls.proofs.Refused.{numbered}
use Rattle.calls_transfer.proofs.Transfers.{move_fits, ready, out_no, out_even, out_yes}
use Rattle.calls_transfer.proofs.tenonwhisk_transfer_out.Goals as goal

pub returns-in_default : goal.returns-in_default
returns-in_default c = out_no _ _ _ _ (other_not _ _ c.in_default.ensures.cases) (numbered NotAState refl) c.refused.ensures

pub returns-in-Err : goal.returns-in-Err
returns-in-Err c = rw (← c.in-Some.ensures.cases.same) (out_no _ _ _ _ c.in-Err.ensures (numbered _ refl) c.refused-in-Err.ensures)

pub overflow_cast-count : goal.overflow_cast-count
overflow_cast-count c = move_fits _ _ _ _ _ c.in_default-check.ensures refl

pub transfer-a-requires : goal.transfer-a-requires
transfer-a-requires c = (ready _ _ _ _ c.in_default-check.ensures refl).below

pub watch-w-requires : goal.watch-w-requires
watch-w-requires c = (ready _ _ _ _ c.in_default-check.ensures refl).some

pub outward-m-requires : goal.outward-m-requires
outward-m-requires c =
    let e = c.in_default-check.ensures in
    rw (c.size-size.ensures, c.transfer-a.ensures) (lent_lent _ _ _ _ e refl, (ready _ _ _ _ e refl).start)

pub accepted-requires : goal.accepted-requires
accepted-requires c =
    let e = c.in_default-check.ensures in
    ((ready _ _ _ _ e refl).formed, out_even _ _ _ _ e refl c.size-size.ensures c.transfer-a.ensures c.watch-w.ensures c.outward-m.ensures)

pub returns : goal.returns
returns c =
    let e = c.in_default-check.ensures in
    let q = c.accepted.ensures in
    rw (← c.in-Some.ensures.cases.same) (out_yes _ _ _ _ e refl c.size-size.ensures c.transfer-a.ensures c.watch-w.ensures c.outward-m.ensures q.0 q.1 (record { each = λ i. (c.type_inv.state i).fits }))
