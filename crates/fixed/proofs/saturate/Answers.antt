use mathlib.Core.Path.{◌∙◌, ap}
use mir.Syntax.{w16, w32}
use mir.Facts.{to_z-of_z}
use Rattle.fixed.specs.Arithmetic.{saturated}
use Rattle.fixed.proofs.Number.{Num, res, hold, is}
use Rattle.fixed.proofs.Saturation.{saturated_in, clamp_is}
use Rattle.fixed.proofs.saturate.Goals as goal

abbrev held : goal.After-clamp → Num
held c =
    res w32 (c.clamp.ensures.value ∙ clamp_is _ ∙ ap saturated (to_z-of_z c.ranges.x)) (saturated_in c.args.x) tt

pub returns : goal.returns
returns c = is (hold w16 (held c) tt)
