use native.Mathlib.Omega.{arith}
use Rattle.chip.proofs.Registers.{listed_below, of_voice_lem}
use Rattle.register_read.proofs.Values.{read_level, read_repeat, read_ends, read_more_ends, read_status, read_left, read_right, read_kept}
use borrow.Author.Rules.{rules}
use Rattle.register_read.proofs.read.Goals as goal

pub level-requires : goal.level-requires
level-requires c = let h = of_voice_lem 0xC c.args.offset c.if-offset.true in omega arith

pub returns-then-offset : goal.returns-then-offset
returns-then-offset c = search read_level

pub repeat-requires : goal.repeat-requires
repeat-requires c = let h = of_voice_lem 0xE c.args.offset c.if-offset-2.true in omega arith

pub returns-then-offset-2 : goal.returns-then-offset-2
returns-then-offset-2 c = search read_repeat

pub returns-in-412 : goal.returns-in-412
returns-in-412 c = search read_ends

pub returns-in-414 : goal.returns-in-414
returns-in-414 c = search read_more_ends

pub returns-in-430 : goal.returns-in-430
returns-in-430 c = search read_status

pub returns-in-440 : goal.returns-in-440
returns-in-440 c = search read_left

pub returns-in-442 : goal.returns-in-442
returns-in-442 c = search read_right

pub register-requires : goal.register-requires
register-requires c = search (listed_below, rules)

pub returns-in_default : goal.returns-in_default
returns-in_default c = search read_kept
