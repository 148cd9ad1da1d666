use mathlib.Core.Path.{refl}
use lib.ListN.{length}
use Rattle.layout.proofs.Ranges.{state_formed, state_in_range}
use Rattle.spu.specs.Step.{run_tests}
use Rattle.calls.specs.declared.Refusal.TheVariants.{NotAState}
use Rattle.calls.proofs.Kept.{other_not, lent_state, lent_lent}
use Rattle.calls.proofs.Refused.{numbered}
use Rattle.calls_ticks.proofs.Floats.{floats_no, floats_short, floats_yes}
use Rattle.calls_ticks.proofs.tenonwhisk_run_floats.Goals as goal

pub returns-in_default : goal.returns-in_default
returns-in_default c = rw c.refused.ensures (floats_no _ c.args.ram.now c.args.marks.now c.args.cd.now c.args.out.now _ (other_not _ _ c.in_default.ensures.cases) (numbered NotAState refl))

pub returns-in-Err : goal.returns-in-Err
returns-in-Err c =
    rw (c.refused-in-Err.ensures, ← c.in-Some.ensures.cases.same) (floats_no _ c.args.ram.now c.args.marks.now c.args.cd.now c.args.out.now _ c.in-Err.ensures (numbered _ refl))

pub returns-then-floats-out : goal.returns-then-floats-out
returns-then-floats-out c = rw (c.refused-then-floats-out.ensures, ← c.in-Some.ensures.cases.same) (floats_short _ c.args.ram.now c.args.marks.now c.args.cd.now c.args.out.now _ c.in_default-check_run.ensures refl c.if-floats-out.true)

pub run-r-requires : goal.run-r-requires
run-r-requires c =
    let e = c.in_default-check_run.ensures in
    let z = refl in
    let t = run_tests (length c.args.cd.now) (length c.args.out.now) in
    let s = lent_state c.in-Some.buffer.now c.args.ram.now c.args.marks.now t e z in
    (state_formed _ s, state_in_range _ s, lent_lent c.in-Some.buffer.now c.args.ram.now c.args.marks.now t e z)

pub returns : goal.returns
returns c =
    rw (← c.in-Some.ensures.cases.same) (floats_yes _ c.args.ram.now c.args.marks.now c.args.cd.now c.args.out.now _ c.in_default-check_run.ensures refl c.if-floats-out.false c.run-r.ensures (record { each = λ i. (c.type_inv.state i).fits }) c.to_floats.ensures)
