use Rattle.chip.proofs.Registers.{from_low}
use Rattle.register_write.proofs.Work.{even_address, takes_voice, takes_repeat, takes_on, takes_off, takes_base, takes_transfer, takes_control, takes_none}
use borrow.Author.Rules.{rules}
use Rattle.register_write.proofs.effect.Goals as goal

pub returns-else-offset-eq14 : goal.returns-else-offset-eq14
returns-else-offset-eq14 c = search takes_voice

pub returns-then-offset-eq14 : goal.returns-then-offset-eq14
returns-then-offset-eq14 c = search takes_repeat

pub overflow_sub-offset : goal.overflow_sub-offset
overflow_sub-offset c = from_low 0x188 0x18A _ c.if-offset.true

pub returns-then-offset : goal.returns-then-offset
returns-then-offset c = search takes_on

pub overflow_sub-offset-then-offset-2 : goal.overflow_sub-offset-then-offset-2
overflow_sub-offset-then-offset-2 c = from_low 0x18C 0x18E _ c.if-offset-2.true

pub returns-then-offset-2 : goal.returns-then-offset-2
returns-then-offset-2 c = search takes_off

pub put_place-requires : goal.put_place-requires
put_place-requires c = (search rules, even_address _ c.requires.1 c.size.ensures c.address_of-a.ensures)

pub returns-in-418 : goal.returns-in-418
returns-in-418 c = search takes_base

pub put_transfer-requires : goal.put_transfer-requires
put_transfer-requires c = (search rules, even_address _ c.requires.1 c.size-in-422.ensures c.address_of-a-in-422.ensures)

pub returns-in-422 : goal.returns-in-422
returns-in-422 c = search takes_transfer

pub returns-in-426 : goal.returns-in-426
returns-in-426 c = search takes_control

pub returns-in_default : goal.returns-in_default
returns-in_default c = search takes_none
