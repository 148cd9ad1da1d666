use mathlib.Core.Path.{◌≡◌}
use mathlib.Core.List.{map}
use lib.ListN.{length, take}
use Rattle.stereo.specs.Float.{float_of}
use Rattle.calls_ticks.proofs.to_floats.Given as goal

abbrev pub invariant-loop-i : goal.invariant-loop-i
invariant-loop-i l = (length l.floats ≡ length l.out) × (take l.i l.floats ≡ take l.i (map float_of l.out))
