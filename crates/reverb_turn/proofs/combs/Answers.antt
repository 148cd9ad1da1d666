use borrow.Author.Rules.{rules}
use mir.Syntax.{w32}
use Rattle.fixed.proofs.Number.{ok, is, passed_in}
use Rattle.reverb.proofs.Turns.{combs_does}
use Rattle.reverb_turn.proofs.combs.Goals as goal

pub returns : goal.returns
returns c =
    (combs_does _ _ _ c.comb-a.ensures c.comb-b.ensures c.comb-c.ensures c.comb-d.ensures (search (rules, c.struct_told-1.given)) (search (rules, c.struct_told-2-1.given)) (search (rules, c.struct_told-3-1.given)) (search (rules, c.struct_told-4-1.given)) c.combed-value.ensures.0 (is (ok w32 _ c.combed-value.type_inv)), passed_in w32 c.combed-value.ensures.1 tt)
