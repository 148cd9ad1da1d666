use mathlib.Core.Path.{refl, ◌∙◌}
use Rattle.calls.specs.Kept.{number_in}
use Rattle.calls.specs.declared.Refusal.TheVariants.{NotAState}
use Rattle.calls.proofs.Kept.{other_not}
use Rattle.calls.proofs.Refused.{numbered}
use Rattle.calls_state.proofs.Calls.{write_no, write_yes, write_ready}
use Rattle.calls_state.proofs.tenonwhisk_write.Goals as goal

pub returns-in_default : goal.returns-in_default
unfolding number_in
returns-in_default c = write_no _ _ _ (c.number.ensures ∙ other_not _ _ c.in_default.ensures.cases) (numbered NotAState c.number.ensures)

pub returns-in-Err : goal.returns-in-Err
returns-in-Err c = rw (← c.in-Some.ensures.cases.same) (write_no _ _ _ (c.number-in-Err.ensures ∙ c.in-Err.ensures) (numbered _ c.number-in-Err.ensures))

pub write-requires : goal.write-requires
write-requires c = write_ready _ _ _ c.in_default-check_write.ensures refl

pub returns : goal.returns
returns c = rw (← c.in-Some.ensures.cases.same) (write_yes _ _ _ c.in_default-check_write.ensures refl c.write.ensures (record { each = λ i. (c.type_inv.state i).fits }))
