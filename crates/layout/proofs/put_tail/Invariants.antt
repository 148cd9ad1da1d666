use mathlib.Core.Path.{◌≡◌}
use lib.ListN.{get_or}
use Rattle.layout.specs.Stores.{put_tail}
use Rattle.layout.proofs.put_tail.Given as goal

abbrev pub invariant-loop-i : goal.invariant-loop-i
invariant-loop-i l = l.state ≡ put_tail (λ j. get_or l.words j 0) 0 l.initial.state l.i
