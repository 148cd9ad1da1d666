use mathlib.Core.Path.{◌≡◌}
use Prim.Native.Nat.{ℕ, ◌<◌}
use lib.IntN.{pos}
use lib.ListN.{get_or}
use Rattle.fixed.specs.Range.{In}
use Rattle.layout.specs.Stores.{put_words, sample_word}
use Rattle.layout.proofs.put_samples.Given as goal

abbrev pub invariant-loop-k : goal.invariant-loop-k
invariant-loop-k l = (l.state ≡ put_words (sample_word l.samples) l.n 11 l.initial.state l.k) × ((j : ℕ) → j < l.k → In 0x8000 0x7FFF (get_or l.samples j (pos 0)))
