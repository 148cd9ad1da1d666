use mathlib.Core.Path.{refl, ◌∙◌, ap}
use Prim.Native.Nat.{◌*◌, ◌^◌}
use native.Mathlib.Omega.{arith}
use mir.Syntax.{w16, w32}
use Rattle.fixed.specs.Arithmetic.{saturated}
use Rattle.fixed.proofs.Number.{Num, res, res_in, said, need, is, hold, add, shr_any, passed}
use Rattle.fixed.proofs.TwosComplement.{signed_in}
use Rattle.adpcm.specs.Adpcm.{sample_of}
use Rattle.adpcm.proofs.Laws.{nibble_placed}
use Rattle.adpcm.proofs.Coding.sample.Goals as goal

-- the nibble in the top bits of a halfword
abbrev top : goal.After-predicted → Num
top c = res w16 c.to_signed.ensures (signed_in 16 0x8000 (c.args.t * 0x1000) refl (omega (arith, c.requires))) tt

abbrev new : goal.After-predicted → Num
new c =
    let shift = c.args.self.header.shift in
    said (hold w32 (shr_any (2 ^ shift) (hold w32 (top c) tt)) tt) (nibble_placed c.args.t shift c.requires c.args.self.shift_in)

abbrev total : goal.After-predicted → Num
total c = add (new c) (res_in w32 c.predicted.ensures.0 c.predicted.ensures.1 tt)

pub returns : goal.returns
unfolding sample_of
returns c = passed w16 c.saturate.type_inv (c.saturate.ensures ∙ ap saturated (is (hold w32 (total c.before) tt)))

pub overflow_add-new : goal.overflow_add-new
overflow_add-new c = need (total c) tt
