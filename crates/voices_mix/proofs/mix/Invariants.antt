use mathlib.Core.Path.{◌≡◌}
use Prim.Native.Nat.{◌≤◌}
use Rattle.voices.specs.Voices.{SidesIn, mixed_of}
use Rattle.voices_mix.proofs.mix.Given as goal

abbrev pub invariant-loop-n : goal.invariant-loop-n
invariant-loop-n l =
    (l.n ≤ 24) × (l.dry ≡ (mixed_of l.regs l.a-items l.n).dry) × (l.wet ≡ (mixed_of l.regs l.a-items l.n).wet) × SidesIn l.n l.dry × SidesIn l.n l.wet
