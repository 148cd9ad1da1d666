use borrow.Author.Rules.{rules}
use mir.Syntax.{w16}
use Rattle.fixed.proofs.Number.{ok, is}
use Rattle.voice_sound.proofs.Sounds.{sound_noise, sound_samples}
use Rattle.voice_sound.proofs.sound.Goals as goal

pub returns-then-s : goal.returns-then-s
returns-then-s c = search (sound_noise, rules)

pub returns : goal.returns
returns c =
    sound_samples _ _ _ c.if-s.false c.index-i.ensures c.interpolate.ensures (search (rules, c.interpolate-arg-1.given))
    (search (rules, c.interpolate-arg-2-1.given))
    (search (rules, c.interpolate-arg-3-1.given))
    (search (rules, c.interpolate-arg-4-1.given))
    (is (ok w16 c.interpolate.result c.interpolate.type_inv))
