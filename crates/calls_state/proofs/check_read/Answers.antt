use mathlib.Core.Path.{refl, ap}
use mathlib.Core.Bool.{not}
use Rattle.std.proofs.lemmas.Result.{err_from_is_err_and}
use Rattle.calls.specs.Kept.{number_in}
use Rattle.calls.proofs.Refused.{numbered}
use Rattle.calls_state.proofs.Calls.{no_state, unlisted, carried, read_5, read_0}
use Rattle.calls_state.proofs.check_read.Goals as goal

pub returns-in_err-buffer : goal.returns-in_err-buffer
unfolding number_in
returns-in_err-buffer c =
    let p = err_from_is_err_and c.from_residual.result c.from_residual.ensures.1 in
    rw (p.1, p.2) (no_state _ _ c.in_err-buffer.ensures.0 (numbered _ refl), tt {0})

pub returns-then-not-listed : goal.returns-then-not-listed
unfolding number_in
returns-then-not-listed c = (unlisted _ _ _ c.in_ok-buffer.ensures.0 c.listed.ensures (ap not c.if-not-listed.true), tt {0})

pub returns-then-offset-eq424 : goal.returns-then-offset-eq424
unfolding number_in
returns-then-offset-eq424 c = (carried _ _ _ c.in_ok-buffer.ensures.0 c.listed.ensures (ap not c.if-not-listed.false) (read_5 _ c.if-offset-eq424.true), tt {0})

pub returns : goal.returns
unfolding number_in
returns c = (carried _ _ _ c.in_ok-buffer.ensures.0 c.listed.ensures (ap not c.if-not-listed.false) (read_0 _ c.if-offset-eq424.false), c.in_ok-buffer.ensures.1)
