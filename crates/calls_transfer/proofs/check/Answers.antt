use mathlib.Core.Path.{refl}
use Rattle.std.proofs.lemmas.Result.{err_from_is_err_and}
use Rattle.calls.proofs.Kept.{lent_more, lent_on}
use Rattle.calls.proofs.Refused.{numbered}
use Rattle.calls_transfer.proofs.Transfers.{move_6, move_7, move_0}
use Rattle.calls_transfer.proofs.check.Goals as goal

pub returns-in_err-buffer : goal.returns-in_err-buffer
returns-in_err-buffer c =
    let p = err_from_is_err_and c.from_residual.result c.from_residual.ensures.1 in
    rw (p.1, p.2) (lent_more _ _ _ _ c.in_err-buffer.ensures.0 (numbered _ refl))

pub returns-then-is_other_mode : goal.returns-then-is_other_mode
returns-then-is_other_mode c = lent_on _ _ _ _ c.in_ok-buffer.ensures.0 refl (move_6 c.args.count (rw c.in_ok-buffer.ensures.1 at c.is_other_mode.ensures) c.if-is_other_mode.true)

pub returns-then-bad_count : goal.returns-then-bad_count
returns-then-bad_count c =
    lent_on _ _ _ _ c.in_ok-buffer.ensures.0 refl (move_7 c.args.count (rw c.in_ok-buffer.ensures.1 at c.is_other_mode.ensures) c.if-is_other_mode.false c.bad_count.ensures c.if-bad_count.true)

pub returns : goal.returns
returns c =
    lent_on _ _ _ _ c.in_ok-buffer.ensures.0 refl (move_0 c.args.count (rw c.in_ok-buffer.ensures.1 at c.is_other_mode.ensures) c.if-is_other_mode.false c.bad_count.ensures c.if-bad_count.false)
