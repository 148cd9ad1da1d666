use mathlib.Core.Path.{◌∙◌, ap}
use mathlib.Core.Bool.{Bool}
use mathlib.Core.List.{List}
use Prim.Native.Nat.{ℕ}
use borrow.Author.Rules.{rules}
use Rattle.std.specs.List.{list_all}
use Rattle.std.proofs.Common.{tests}
use Rattle.std.proofs.lemmas.Iterator.{YieldsList-from_slice}
use Rattle.std.proofs.lemmas.Iterator.Search.{all_from_yields_List}
use Rattle.xa.specs.Xa.{is_group_copied}
use Rattle.xa.proofs.Laws.{groups_copied}
use Rattle.xa.proofs.are_copied.Goals as goal

abbrev copied : List ℕ → Bool
copied group = is_group_copied group 0

pub returns : goal.returns
returns c =
    all_from_yields_List copied _ _ c.all.result c.all.ensures.ran (YieldsList-from_slice _ c.iter.ensures.rest) (λ x b q k. search (rules, tests))
    ∙ ap (list_all copied) c.as_chunks.ensures.front
    ∙ rw c.requires (groups_copied 18 c.args.sector.now)
