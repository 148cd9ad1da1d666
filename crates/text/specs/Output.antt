-- Text put into the bytes that an output was lent. Assumes nothing.
use Rattle.std.specs.Prelude.{◌≡◌, List, ℕ}
use Rattle.text.specs.Text.{Prints}
use Rattle.text.specs.declared.Output.{Output}

-- the text was put at the place, and the bytes are still the lent ones
pub record Puts (text : List ℕ) (p q : Output) : Type 0 where
  pub same : q.bytes.ghost_name ≡ p.bytes.ghost_name
  pub prints : Prints text p.bytes.now p.place q.bytes.now q.place
