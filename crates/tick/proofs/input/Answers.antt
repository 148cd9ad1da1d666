use Rattle.std.proofs.Common.{ap, ◌∙◌, to_z-of_z, w16, w32}
use Rattle.fixed.specs.Arithmetic.{saturated}
use Rattle.fixed.proofs.Number.{arg_in, passed, need, is, hold, add}
use Rattle.tick.proofs.Parts.{input_with, input_without}
use Rattle.tick.proofs.input.Goals as goal

pub overflow_add-wet : goal.overflow_add-wet
overflow_add-wet c = need ((add (arg_in c.ranges.wet c.requires.0) (arg_in c.ranges.cd c.requires.1))) tt

pub returns-then-control : goal.returns-then-control
returns-then-control c =
    input_with _ _ _ c.control.ensures c.if-control.true (passed w16 c.saturate.type_inv (c.saturate.ensures ∙ ap saturated (is (hold w32 ((add (arg_in c.ranges.wet c.requires.0) (arg_in c.ranges.cd c.requires.1))) tt))))

pub returns : goal.returns
returns c =
    input_without _ _ _ c.control.ensures c.if-control.false (passed w16 c.saturate-2.type_inv (c.saturate-2.ensures ∙ ap saturated (to_z-of_z c.ranges.wet)))
