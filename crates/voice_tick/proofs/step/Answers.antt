use Prim.Native.Nat.{◌+◌, ◌<◌}
use native.Mathlib.Omega.{arith}
use mir.Facts.{to_z-of_z}
use Rattle.voice.proofs.Range.{moves_small}
use Rattle.voice.proofs.Ticks.{stepped_voice, stepped_target}
use Rattle.voice_tick.proofs.step.Goals as goal

pub overflow_add-result : goal.overflow_add-result
overflow_add-result c =
    let l : c.args.v.position.index + c.advance-m.result.moves < 32 = search moves_small in
    record { fits = omega arith }

pub returns : goal.returns
returns c = (search (stepped_voice, to_z-of_z), search (stepped_target, to_z-of_z), search moves_small)
