use borrow.Author.Rules.{rules}
use mir.Syntax.{w16, w32}
use mir.Facts.{to_z-of_z}
use Rattle.fixed.proofs.Number.{ok, is, passed_in}
use Rattle.reverb.proofs.Turns.{reflection_does}
use Rattle.reverb_turn.proofs.reflection.Goals as goal

pub reflected-x-requires : goal.reflected-x-requires
reflected-x-requires c =
    passed_in w32 c.requires.1 tt

pub store-requires : goal.store-requires
store-requires c =
    (c.requires.0, c.bytes-to.ensures.1)

pub returns : goal.returns
returns c =
    reflection_does _ _ _ _ _ _ c.bytes-to.ensures.0 c.bytes.ensures.0 (to_z-of_z c.ranges.input) c.fetch-a.ensures c.fetch-b.ensures (search (rules, c.struct_told-1.given)) (search (rules, c.struct_told-2-1.given)) (search (rules, c.struct_told-3-1.given)) c.reflected-x.ensures (is (ok w16 _ c.reflected-x.type_inv)) c.store.ensures
