use mathlib.Core.Path.{◌≡◌}
use lib.ListN.{get_or}
use Rattle.layout.specs.Stores.{put_words}
use Rattle.layout.proofs.put_words.Given as goal

abbrev pub invariant-loop-w : goal.invariant-loop-w
invariant-loop-w l = l.state ≡ put_words (λ u. get_or l.words u 0) l.n 0 l.initial.state l.w
