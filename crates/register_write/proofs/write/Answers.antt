use mathlib.Core.Path.{refl}
use native.Mathlib.Omega.{arith}
use Rattle.chip.proofs.Registers.{listed_below}
use Rattle.register_write.proofs.Work.{still_sized, written_in}
use borrow.Author.Rules.{rules}
use Rattle.register_write.proofs.write.Goals as goal

pub register-old-requires : goal.register-old-requires
register-old-requires c = search (listed_below, rules)

pub put_register-requires : goal.put_register-requires
put_register-requires c = let h = listed_below _ c.requires.2 in (omega arith, search rules)

pub effect-requires : goal.effect-requires
effect-requires c = let w = c.put_register.ensures in (w.formed, still_sized _ c.requires.1 w refl)

pub returns : goal.returns
returns c = search written_in
