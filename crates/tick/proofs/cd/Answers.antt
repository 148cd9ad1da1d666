use Rattle.std.proofs.Common.{pos, ap, ◌∙◌, w16, w32}
use Rattle.fixed.specs.Signed.{signed}
use Rattle.fixed.proofs.Number.{arg, lit, ok, said, prod, hold, need, is, range, wide}
use Rattle.tick.proofs.Parts.{cd_on, cd_off}
use Rattle.tick.proofs.cd.Goals as goal

pub overflow_cast-x : goal.overflow_cast-x
overflow_cast-x c = need ((arg c.ranges.x)) tt

pub product-requires : goal.product-requires
product-requires c = wide (range (hold w32 ((arg c.ranges.x)) tt)) tt

pub returns-then-control : goal.returns-then-control
returns-then-control c =
    let a = c.before in
    let b = a.before in
    let d = b.before in
    let e = d.before in
    let f = e.before in
    (cd_on _ _ _ c.control.ensures c.if-control.true (is ((let a = c.before in let b = a.before in let d = b.before in let e = d.before in let f = e.before in prod (hold w32 ((arg c.ranges.x)) tt) (said (ok w16 c.to_signed-volume.result c.to_signed-volume.type_inv) (c.to_signed-volume.ensures ∙ ap (signed 16) c.at.ensures)) c.product.ensures tt))), wide (range ((let a = c.before in let b = a.before in let d = b.before in let e = d.before in let f = e.before in prod (hold w32 ((arg c.ranges.x)) tt) (said (ok w16 c.to_signed-volume.result c.to_signed-volume.type_inv) (c.to_signed-volume.ensures ∙ ap (signed 16) c.at.ensures)) c.product.ensures tt))) tt)

pub returns : goal.returns
returns c = (cd_off _ _ _ c.control.ensures c.if-control.false, wide (range (lit (pos 0))) tt)
