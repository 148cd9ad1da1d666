use mathlib.Core.Path.{ap, ◌∙◌}
use lib.IntN.{ℤ, pos}
use mir.Syntax.{w16}
use Rattle.fixed.specs.Arithmetic.{product_of}
use Rattle.fixed.proofs.Number.{passed}
use Rattle.voice.specs.Voice.{amplitude_of}
use Rattle.voice_sound.proofs.amplitude.Goals as goal

pub returns : goal.returns
unfolding amplitude_of
returns c = passed w16 c.scaled.type_inv (c.scaled.ensures ∙ ap (λ (z : ℤ). product_of z (pos c.args.v.envelope.level)) (passed w16 c.sound.type_inv c.sound.ensures))
