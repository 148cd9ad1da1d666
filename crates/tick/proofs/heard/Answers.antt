use Rattle.std.proofs.Common.{pos, ap, ◌∙◌, to_z-of_z, w16, w32}
use Rattle.fixed.specs.Arithmetic.{saturated}
use Rattle.fixed.proofs.Saturation.{saturated_in}
use Rattle.fixed.proofs.Number.{Num, arg, lit, res, need, is, range, hold, add, wide}
use Rattle.tick.proofs.Parts.{heard_on, heard_off}
use Rattle.tick.proofs.heard.Goals as goal

abbrev total : goal.After-saturate → Num
total c = res w16 (c.saturate.ensures ∙ ap saturated (to_z-of_z c.ranges.total)) (saturated_in _) tt

abbrev held : goal.After-saturate → Num
held c = arg c.ranges.held

abbrev sum : goal.After-saturate → Num
sum c = add (hold w32 (total c) tt) (hold w32 (held c) tt)

pub overflow_cast-result : goal.overflow_cast-result
overflow_cast-result c = need (total c) tt

pub overflow_cast-result-then-on : goal.overflow_cast-result-then-on
overflow_cast-result-then-on c = need (held c) tt

pub overflow_add-result : goal.overflow_add-result
overflow_add-result c = need (sum c) tt

pub returns-then-on : goal.returns-then-on
returns-then-on c = let r = hold w32 (sum c) tt in (heard_on _ _ _ c.if-on.true (is r), wide (range r) tt)

pub returns : goal.returns
returns c = (heard_off _ _ _ c.if-on.false, wide (range (lit (pos 0))) tt)
