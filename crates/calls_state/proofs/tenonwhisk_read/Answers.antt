use mathlib.Core.Path.{refl, ◌∙◌}
use Rattle.calls.proofs.Refused.{numbered}
use Rattle.calls_state.proofs.Calls.{read_no, read_yes, read_ready}
use Rattle.calls_state.proofs.tenonwhisk_read.Goals as goal

pub returns-in-Err : goal.returns-in-Err
returns-in-Err c = read_no _ _ (c.number.ensures ∙ c.in-Err.ensures.0) (numbered _ c.number.ensures)

pub read-requires : goal.read-requires
read-requires c = let e = c.in-Ok.ensures in rw e.1 (read_ready _ _ e.0 refl)

pub returns-in-Ok : goal.returns-in-Ok
returns-in-Ok c = let e = c.in-Ok.ensures in read_yes _ _ e.0 refl (rw (← e.1) c.read.ensures) (record { each = λ i. (c.type_inv.state i).fits })
