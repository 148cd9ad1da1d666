use mathlib.Core.Path.{refl, ◌∙◌}
use Rattle.calls.proofs.Refused.{numbered}
use Rattle.calls_state.proofs.Calls.{status_no, status_yes}
use Rattle.calls_state.proofs.tenonwhisk_status.Goals as goal

pub returns-in-Err : goal.returns-in-Err
returns-in-Err c = status_no _ (c.number.ensures ∙ c.in-Err.ensures.0) (numbered _ c.number.ensures)

pub returns-in-Ok : goal.returns-in-Ok
returns-in-Ok c =
    let e = c.in-Ok.ensures in
    status_yes _ e.0 refl (rw (← e.1) (rw c.control.ensures)) (rw (← e.1) c.size.ensures) (rw (← e.1) c.tick.ensures) (record { each = λ i. (c.type_inv.state i).fits })
