use mathlib.Core.Path.{refl, ◌∙◌}
use Rattle.calls.specs.declared.Refusal.TheVariants.{NotAState}
use Rattle.calls.proofs.Kept.{other_not}
use Rattle.calls.proofs.Refused.{numbered}
use Rattle.calls_state.proofs.Calls.{reset_no, reset_yes}
use Rattle.calls_state.proofs.tenonwhisk_reset.Goals as goal

pub returns-in_default : goal.returns-in_default
returns-in_default c = reset_no _ (c.number.ensures ∙ other_not _ _ c.in_default.ensures.cases) (numbered NotAState c.number.ensures)

pub returns-in-Err : goal.returns-in-Err
returns-in-Err c = rw (← c.in-Some.ensures.cases.same) (reset_no _ (c.number-in-Err.ensures ∙ c.in-Err.ensures.0) (numbered _ c.number-in-Err.ensures))

pub returns : goal.returns
returns c =
    rw (← c.in-Some.ensures.cases.same) (reset_yes _ c.in_default-check_state.ensures.0 refl c.size-size.ensures c.fresh.ensures (record { each = λ i. (c.type_inv.state i).fits }))
