use mathlib.Core.Path.{refl}
use Rattle.text.proofs.Laws.{byte_put, byte_dropped}
use Rattle.text.proofs.Output.put_byte.Goals as goal

pub returns-then-self : goal.returns-then-self
returns-then-self c = record { same = refl; prints = search byte_put }

pub returns-else-self : goal.returns-else-self
returns-else-self c = record { same = refl; prints = search byte_dropped }
