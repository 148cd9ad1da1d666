use borrow.Author.Rules.{rules}
use Rattle.layout.proofs.Read.{part_is, registers_are}
use Rattle.layout.proofs.registers.Goals as goal

pub returns : goal.returns
returns c = registers_are _ (part_is _ 4 256 (search rules) (search rules))
