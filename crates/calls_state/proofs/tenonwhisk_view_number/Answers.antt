use mathlib.Core.Path.{◌∙◌}
use Rattle.calls.proofs.Refused.{numbered}
use Rattle.calls_state.proofs.Views.{view_no, view_yes}
use Rattle.calls_state.proofs.tenonwhisk_view_number.Goals as goal

pub returns-in-Ok : goal.returns-in-Ok
returns-in-Ok c = view_yes _ _ _ c.in-Ok.ensures (record { each = λ i. (c.type_inv.state i).fits })

pub returns-in-Err : goal.returns-in-Err
returns-in-Err c = view_no _ _ _ (c.number.ensures ∙ c.in-Err.ensures) (numbered _ c.number.ensures)
