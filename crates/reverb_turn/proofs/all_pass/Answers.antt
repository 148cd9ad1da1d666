use mathlib.Core.Path.{◌≡◌}
use borrow.Author.Rules.{rules}
use mir.Syntax.{w16, w32}
use mir.Val.{to_z, of_z}
use Rattle.fixed.proofs.Number.{ok, is, passed_in}
use Rattle.soundram.proofs.Programs.{lent_after}
use Rattle.reverb.proofs.Turns.{all_pass_does}
use Rattle.reverb_turn.proofs.all_pass.Goals as goal

pub fetch-b-requires : goal.fetch-b-requires
fetch-b-requires c =
    (lent_after c.store-stored.ensures c.requires.0, c.bytes-to.ensures.1, c.bytes-back.ensures.1)

pub fed-value-requires : goal.fed-value-requires
fed-value-requires c =
    c.requires.2

pub returns : goal.returns
returns c =
    let x : to_z w32 (of_z w32 c.args.out.value) ≡ c.args.out.value = search (rules, c.struct_told-1.given) in
    let y : to_z w16 (of_z w16 c.fetch-a.result.value) ≡ c.fetch-a.result.value = search (rules, c.struct_told-2-1.given) in
    let z : to_z w16 (of_z w16 c.fetch-b.result.value) ≡ c.fetch-b.result.value = search (rules, c.struct_told-3-1.given) in
    (all_pass_does _ _ _ _ _ _ _ c.bytes-to.ensures.0 c.bytes-back.ensures.0 c.fetch-a.ensures c.passed-x.ensures x y (is (ok w16 _ c.passed-x.type_inv)) c.store-stored.ensures c.fetch-b.ensures c.fed-value.ensures.0 z (is (ok w16 _ c.passed-x.type_inv)) (is (ok w32 _ c.fed-value.type_inv)), passed_in w32 c.fed-value.ensures.1 tt)
