use mir.Syntax.{w16}
use Rattle.fixed.proofs.Number.{ok, is, passed}
use Rattle.voice_sound.proofs.Sounds.{sound_noise}
use Rattle.fast_path.proofs.Stays.{index_first, index_small, sound_here}
use borrow.Author.Rules.{rules}
use Rattle.fast_path.proofs.sound.Goals as goal

pub returns-then-s : goal.returns-then-s
returns-then-s c = search (sound_noise, rules)

pub sample-requires : goal.sample-requires
sample-requires c = (c.requires.0, index_first c.position-p.ensures c.requires.1)

pub sample-requires-2 : goal.sample-requires-2
sample-requires-2 c = (c.requires.0, index_small c.position-p.ensures c.requires.1 _ (search rules))

pub sample-requires-3 : goal.sample-requires-3
sample-requires-3 c = (c.requires.0, index_small c.position-p.ensures c.requires.1 _ (search rules))

pub sample-requires-4 : goal.sample-requires-4
sample-requires-4 c = (c.requires.0, index_small c.position-p.ensures c.requires.1 _ (search rules))

pub returns : goal.returns
returns c =
    sound_here _ _ _ c.if-s.false c.position-p.ensures c.index-i.ensures c.interpolate.ensures (passed w16 c.sample.type_inv c.sample.ensures)
    (passed w16 c.sample-2.type_inv c.sample-2.ensures) (passed w16 c.sample-3.type_inv c.sample-3.ensures) (passed w16 c.sample-4.type_inv c.sample-4.ensures) (is (ok w16 c.interpolate.result c.interpolate.type_inv))
