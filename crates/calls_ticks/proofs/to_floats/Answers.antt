use mathlib.Core.Path.{ap, ◌∙◌}
use mir.Syntax.{w16}
use mir.Facts.{to_z-of_z}
use Rattle.std.proofs.Common.{rules}
use Rattle.stereo.specs.Float.{float_of}
use Rattle.calls_ticks.proofs.Floats.{floats_more}
use Rattle.calls_ticks.proofs.to_floats.Goals as goal

pub loop-i-preserved : goal.loop-i-preserved
loop-i-preserved c =
    (search rules, floats_more c.args.out.now c.loop-i.i c.loop-i.floats (search rules) c.loop-i.invariant.0 c.loop-i.invariant.1 (c.to_float.ensures.0 ∙ ap float_of (to_z-of_z {w = w16} (search (rules, c.to_float-arg-1.given)))))
