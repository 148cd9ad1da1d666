use mathlib.Core.Path.{refl}
use mathlib.Core.List.{[]}
use mir.Facts.{to_z-of_z}
use Rattle.layout.proofs.Ranges.{state_formed, state_in_range}
use Rattle.calls.specs.declared.Refusal.TheVariants.{NotAState}
use Rattle.calls.proofs.Kept.{other_not, lent_state, lent_lent}
use Rattle.calls.proofs.Refused.{numbered}
use Rattle.calls_ticks.proofs.Runs.{tick_no, tick_yes}
use borrow.Author.Rules.{rules}
use Rattle.calls_ticks.proofs.tenonwhisk_tick.Goals as goal

pub returns-in_default : goal.returns-in_default
returns-in_default c = rw c.not_ticked.ensures (tick_no _ _ _ c.args.ram.now c.args.marks.now (other_not _ _ c.in_default.ensures.cases) (numbered NotAState refl))

pub returns-in-Err : goal.returns-in-Err
returns-in-Err c =
    rw (c.not_ticked-in-Err.ensures, ← c.in-Some.ensures.cases.same) (tick_no _ _ _ c.args.ram.now c.args.marks.now c.in-Err.ensures.0 (numbered _ refl))

pub run-r-requires : goal.run-r-requires
run-r-requires c =
    let e = c.in_default-check_lent.ensures.0 in
    let z = refl in
    let s = lent_state c.in-Some.buffer.now c.args.ram.now c.args.marks.now [] e z in
    (state_formed _ s, state_in_range _ s, lent_lent c.in-Some.buffer.now c.args.ram.now c.args.marks.now [] e z)

pub returns : goal.returns
returns c =
    rw (← c.in-Some.ensures.cases.same) (tick_yes _ _ _ c.args.ram.now c.args.marks.now c.in_default-check_lent.ensures.0 _ _ refl c.run-r.ensures (record { each = λ i. (c.type_inv.state i).fits }) (to_z-of_z c.ranges.left) (to_z-of_z c.ranges.right) refl (search (rules, c.result-1.given)) (search (rules, c.result-2-1.given)))
