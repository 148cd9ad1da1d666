use Rattle.std.proofs.Common.{ap, ◌∙◌, to_z-of_z, w16, w32}
use Rattle.fixed.specs.Arithmetic.{saturated, volume_of}
use Rattle.fixed.proofs.Saturation.{saturated_in}
use Rattle.fixed.proofs.Number.{Num, arg_in, res, res_in, ok, said, passed, prod, need, is, range, hold, add, wide}
use Rattle.tick.proofs.Parts.{mix_as}
use Rattle.tick.proofs.mix.Goals as goal

pub overflow_add-heard : goal.overflow_add-heard
overflow_add-heard c = let h = c.heard.ensures in need (add (res_in w32 h.0 h.1 tt) (arg_in c.ranges.cd c.requires.0)) tt

pub overflow_cast-sum : goal.overflow_cast-sum
overflow_cast-sum c =
    let h = c.heard.ensures in
    let s : Num = add (res_in w32 h.0 h.1 tt) (arg_in c.ranges.cd c.requires.0) in
    let m : Num = res w16 (c.saturate-sum.ensures ∙ ap saturated (is (hold w32 s tt))) (saturated_in _) tt in
    need m tt

pub product-requires : goal.product-requires
product-requires c =
    let h = c.heard.ensures in
    let s : Num = add (res_in w32 h.0 h.1 tt) (arg_in c.ranges.cd c.requires.0) in
    let m : Num = res w16 (c.saturate-sum.ensures ∙ ap saturated (is (hold w32 s tt))) (saturated_in _) tt in
    wide (range (hold w32 m tt)) tt

pub returns : goal.returns
returns c =
    let h = c.heard.ensures in
    let s : Num = add (res_in w32 h.0 h.1 tt) (arg_in c.ranges.cd c.requires.0) in
    let m : Num = res w16 (c.saturate-sum.ensures ∙ ap saturated (is (hold w32 s tt))) (saturated_in _) tt in
    let v : Num = said (ok w16 c.volume-volume.result c.volume-volume.type_inv) (c.volume-volume.ensures ∙ ap volume_of c.at.ensures) in
    let o : Num = prod (hold w32 m tt) v c.product.ensures tt in
    mix_as _ _ _ _ _ c.control.ensures (to_z-of_z c.ranges.total) (to_z-of_z c.ranges.held) (passed w16 c.saturate.type_inv (c.saturate.ensures ∙ ap saturated (is o)))
