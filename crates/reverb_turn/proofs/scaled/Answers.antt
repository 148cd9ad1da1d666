use mir.Syntax.{w16}
use Rattle.fixed.proofs.Number.{Num, arg_in, ok, said, prod, is, range, wide}
use Rattle.reverb_turn.proofs.scaled.Goals as goal

abbrev p : goal.After-product → Num
p c = prod (arg_in c.ranges.x c.requires.0) (said (ok w16 c.volume.result c.volume.type_inv) c.volume.ensures) c.product.ensures tt

pub returns : goal.returns
returns c = (is (p c), wide (range (p c)) tt)
