use mathlib.Core.Path.{◌≡◌}
use Rattle.std.specs.Prelude.{Ok}
use Rattle.bank.specs.Bank.{damage_below}
use Rattle.bank_write.specs.Write.{is_entry_in}
use Rattle.bank_write.specs.Handed.{handed}
use Rattle.bank_write.proofs.lists.Lists.are_good.Given as goal

abbrev pub invariant-loop-n : goal.invariant-loop-n
invariant-loop-n l = damage_below (is_entry_in (handed l.self) l.size) l.n ≡ Ok tt
