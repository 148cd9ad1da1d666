use mathlib.Core.Path.{◌≡◌}
use Rattle.std.specs.Prelude.{Ok}
use Rattle.bank.specs.Bank.{is_entry_at, damage_below}
use Rattle.bank.proofs.check.Given as goal

abbrev pub invariant-loop-n : goal.invariant-loop-n
invariant-loop-n l = damage_below (is_entry_at l.bank) l.n ≡ Ok tt
