use Rattle.range_check.proofs.Tests.{other_length, tag_tested}
use Rattle.range_check.proofs.tagged.Goals as goal

pub returns-in_err-buffer : goal.returns-in_err-buffer
returns-in_err-buffer c = rw c.from_residual.ensures (other_length _ c.in_err-buffer.ensures.cases)

pub returns-then-buffer : goal.returns-then-buffer
returns-then-buffer c = let w = c.in_ok-buffer.ensures.cases in (w.same, tag_tested _ _ w c.if-buffer.true)

pub returns-else-buffer : goal.returns-else-buffer
returns-else-buffer c = tag_tested _ _ c.in_ok-buffer.ensures.cases c.if-buffer.false
