use mir.Syntax.{w16, w32}
use Rattle.fixed.proofs.Number.{Num, res, hold, need, is, range}
use Rattle.gauss.proofs.Rule.{factor_in, lent_at}
use Rattle.gauss.proofs.Table.factor.Goals as goal

abbrev entry : goal.After-result-1 → Num
entry c = res w16 (lent_at c.args.i c.args.self.now.right) (factor_in c.args.i c.requires) tt

pub overflow_cast-result : goal.overflow_cast-result
overflow_cast-result c = need (entry c) tt

pub returns : goal.returns
returns c = let r = hold w32 (entry c) tt in (is r, range r)
