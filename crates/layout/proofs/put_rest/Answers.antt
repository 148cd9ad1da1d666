use mathlib.Core.Path.{ap, ◌∙◌}
use mir.Val.{SFits}
use mir.Syntax.{w16}
use mir.Facts.{to_z-of_z}
use Rattle.fixed.specs.Signed.{bits_of}
use Rattle.fixed.proofs.Number.{arg}
use Rattle.layout.proofs.Tail.{rest_holds}
use borrow.Author.Rules.{rules}
use Rattle.layout.proofs.put_rest.Goals as goal

pub returns : goal.returns
returns c =
    let left : SFits w16 c.args.reverb.held.left = search rules in
    let right : SFits w16 c.args.reverb.held.right = search rules in
    rest_holds _ c.requires.0 c.args.noise c.args.control c.args.capture c.args.reverb c.args.tick c.requires.1 c.requires.2 (arg left).within (arg right).within
    c.low.ensures c.high.ensures c.low-2.ensures c.high-2.ensures
    (c.to_bits.ensures ∙ ap (bits_of 16) (to_z-of_z left)) (c.to_bits-2.ensures ∙ ap (bits_of 16) (to_z-of_z right)) c.low-3.ensures c.high-3.ensures c.put_tail.ensures
