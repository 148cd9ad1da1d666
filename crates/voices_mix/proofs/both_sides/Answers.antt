use borrow.Author.Rules.{rules}
use mir.Syntax.{w32}
use mir.Facts.{to_z-of_z}
use Rattle.fixed.proofs.Number.{passed_in, ok, is}
use Rattle.voices_mix.proofs.Shares.{shares_as}
use Rattle.voices_mix.proofs.both_sides.Goals as goal

pub returns : goal.returns
returns c =
    let f = to_z-of_z c.ranges.a in (
      shares_as _ _ _ (search (rules, c.side-arg-1.given)) (search (rules, c.side-arg-2-1.given)) f f c.side.ensures.0 c.side-2.ensures.0
          (is (ok w32 c.side.result c.side.type_inv)) (is (ok w32 c.side-2.result c.side-2.type_inv)),
      record { left = passed_in w32 c.side.ensures.1 tt; right = passed_in w32 c.side-2.ensures.1 tt },
    )
