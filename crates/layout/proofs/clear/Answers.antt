use mathlib.Core.Path.{◌≡◌, ap, ◌∙◌}
use Prim.Native.Nat.{ℕ}
use borrow.Author.Rules.{rules}
use lib.ListN.{length, replicate}
use Rattle.layout.specs.Layout.{state_length}
use Rattle.layout.specs.Stores.{zeros_of}
use Rattle.layout.proofs.clear.Goals as goal

pub returns : goal.returns
unfolding zeros_of
returns c = let l : length c.args.state.now ≡ state_length = search rules in c.fill.ensures.after (λ y h. h) ∙ ap (λ (n : ℕ). replicate n 0) l
