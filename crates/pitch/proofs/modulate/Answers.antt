use mathlib.Core.Path.{refl, ◌∙◌, ap}
use lib.IntN.{pos}
use mir.Syntax.{w16, w32}
use Rattle.fixed.specs.Signed.{bits_of}
use Rattle.fixed.proofs.Number.{Num, arg, lit, res, prod, add, hold, need, is, range, wide}
use Rattle.fixed.proofs.TwosComplement.{signed_in}
use Rattle.pitch.specs.Pitch.{modulated_of}
use Rattle.pitch.proofs.modulate.Goals as goal

abbrev amplitude : goal.Start → Num
amplitude c = arg c.ranges.amplitude

abbrev factor : goal.Start → Num
factor c = add (hold w32 (amplitude c) tt) (lit (pos 0x8000))

abbrev pitch : goal.After-to_signed → Num
pitch c = res w16 c.to_signed.ensures (signed_in 16 0x8000 c.args.pitch refl c.ranges.pitch.fits) tt

abbrev step : goal.After-product-step → Num
step c = prod (hold w32 (factor c.before.before) tt) (pitch c.before) c.product-step.ensures tt

pub returns : goal.returns
unfolding modulated_of
returns c = c.low16.ensures ∙ ap (bits_of 16) (is (step c.before))

pub overflow_cast-factor : goal.overflow_cast-factor
overflow_cast-factor c = need (amplitude c) tt

pub overflow_add-factor : goal.overflow_add-factor
overflow_add-factor c = need (factor c) tt

pub product-step-requires : goal.product-step-requires
product-step-requires c = wide (range (hold w32 (factor c.before) tt)) tt

pub low16-requires : goal.low16-requires
low16-requires c = wide (range (step c)) tt
