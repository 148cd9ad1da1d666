use mathlib.Core.Path.{refl}
use Rattle.std.proofs.lemmas.Result.{err_from_is_err_and}
use Rattle.calls.proofs.Refused.{numbered}
use Rattle.calls_ticks.proofs.Runs.{run_lent, run_25, run_0}
use Rattle.calls_ticks.proofs.check_run.Goals as goal

pub returns-in_err-check_lent : goal.returns-in_err-check_lent
returns-in_err-check_lent c =
    let p = err_from_is_err_and c.from_residual.result c.from_residual.ensures.1 in
    rw (p.1, p.2) (run_lent _ c.args.ram c.args.marks c.args.cd c.args.out c.in_err-check_lent.ensures.0 (numbered _ refl))

pub returns-then-cd-out : goal.returns-then-cd-out
returns-then-cd-out c = run_25 _ c.args.ram c.args.marks c.args.cd c.args.out c.in_ok-check_lent.ensures.0 _ refl c.if-cd-out.true refl

pub returns : goal.returns
returns c = run_0 _ c.args.ram c.args.marks c.args.cd c.args.out c.in_ok-check_lent.ensures.0 _ refl c.if-cd-out.false refl
