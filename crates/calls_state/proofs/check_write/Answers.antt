use mathlib.Core.Path.{refl, ap}
use mathlib.Core.Bool.{not}
use Rattle.std.proofs.lemmas.Result.{err_from_is_err_and}
use Rattle.calls.specs.Kept.{number_in}
use Rattle.calls.proofs.Refused.{numbered}
use Rattle.calls_state.proofs.Calls.{no_state, unlisted, carried, write_4, write_11, write_5, write_0}
use Rattle.calls_state.proofs.check_write.Goals as goal

pub returns-in_err-check_state : goal.returns-in_err-check_state
unfolding number_in
returns-in_err-check_state c =
    let p = err_from_is_err_and c.from_residual.result c.from_residual.ensures.1 in
    rw (p.1, p.2) (no_state _ _ c.in_err-check_state.ensures.0 (numbered _ refl))

pub returns-then-not-listed : goal.returns-then-not-listed
unfolding number_in
returns-then-not-listed c = unlisted _ _ _ c.in_ok-check_state.ensures.0 c.listed.ensures (ap not c.if-not-listed.true)

pub returns-then-read_only : goal.returns-then-read_only
unfolding number_in
returns-then-read_only c = carried _ _ _ c.in_ok-check_state.ensures.0 c.listed.ensures (ap not c.if-not-listed.false) (write_4 _ _ c.read_only.ensures c.if-read_only.true)

pub returns-then-undocumented : goal.returns-then-undocumented
unfolding number_in
returns-then-undocumented c = carried _ _ _ c.in_ok-check_state.ensures.0 c.listed.ensures (ap not c.if-not-listed.false) (write_11 _ _ c.read_only.ensures c.if-read_only.false c.undocumented.ensures c.if-undocumented.true)

pub returns-then-not_written : goal.returns-then-not_written
unfolding number_in
returns-then-not_written c = carried _ _ _ c.in_ok-check_state.ensures.0 c.listed.ensures (ap not c.if-not-listed.false) (write_5 _ _ c.read_only.ensures c.if-read_only.false c.undocumented.ensures c.if-undocumented.false c.not_written.ensures c.if-not_written.true)

pub returns : goal.returns
unfolding number_in
returns c = carried _ _ _ c.in_ok-check_state.ensures.0 c.listed.ensures (ap not c.if-not-listed.false) (write_0 _ _ c.read_only.ensures c.if-read_only.false c.undocumented.ensures c.if-undocumented.false c.not_written.ensures c.if-not_written.false)
