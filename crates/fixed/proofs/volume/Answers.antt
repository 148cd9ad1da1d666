use mathlib.Core.Path.{◌∙◌, refl}
use Prim.Native.Nat.{◌%◌}
use native.Mathlib.Omega.{arith}
use mir.Syntax.{w16}
use Rattle.fixed.specs.Arithmetic.{volume_of}
use Rattle.fixed.proofs.Number.{passed}
use Rattle.fixed.proofs.TwosComplement.{signed_twice}
use Rattle.fixed.proofs.volume.Goals as goal

pub returns : goal.returns
unfolding volume_of
returns c = passed w16 c.to_signed.type_inv (c.to_signed.ensures ∙ signed_twice 15 16 (c.args.v % 0x8000) refl (omega arith))
