use mathlib.Core.Path.{refl}
use Rattle.layout.proofs.Ranges.{state_formed, state_in_range}
use Rattle.spu.specs.Step.{run_tests}
use Rattle.calls.specs.declared.Refusal.TheVariants.{NotAState}
use Rattle.calls.proofs.Kept.{other_not, lent_state, lent_lent}
use Rattle.calls.proofs.Refused.{numbered}
use lib.ListN.{length}
use Rattle.calls_ticks.proofs.Runs.{run_no, run_yes}
use Rattle.calls_ticks.proofs.tenonwhisk_run.Goals as goal

pub returns-in_default : goal.returns-in_default
returns-in_default c = rw c.refused.ensures (run_no _ c.args.ram.now c.args.marks.now c.args.cd.now c.args.out.now (other_not _ _ c.in_default.ensures.cases) (numbered NotAState refl))

pub returns-in-Err : goal.returns-in-Err
returns-in-Err c =
    rw (c.refused-in-Err.ensures, ← c.in-Some.ensures.cases.same) (run_no _ c.args.ram.now c.args.marks.now c.args.cd.now c.args.out.now c.in-Err.ensures (numbered _ refl))

pub run-r-requires : goal.run-r-requires
run-r-requires c =
    let e = c.in_default-check_run.ensures in
    let z = refl in
    let t = run_tests (length c.args.cd.now) (length c.args.out.now) in
    let s = lent_state c.in-Some.buffer.now c.args.ram.now c.args.marks.now t e z in
    (state_formed _ s, state_in_range _ s, lent_lent c.in-Some.buffer.now c.args.ram.now c.args.marks.now t e z)

pub returns : goal.returns
returns c =
    rw (← c.in-Some.ensures.cases.same) (run_yes _ c.args.ram.now c.args.marks.now c.args.cd.now c.args.out.now c.in_default-check_run.ensures refl c.run-r.ensures (record { each = λ i. (c.type_inv.state i).fits }))
