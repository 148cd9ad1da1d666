use native.Mathlib.Omega.{arith}
use borrow.Author.Rules.{rules}
use Rattle.fixed.proofs.Loops.{to_end}
use Rattle.chip.specs.Registers.{end_flags}
use Rattle.register_read.proofs.Values.{ended_bit, flags_none, flags_more, flags_fit}
use Rattle.register_read.proofs.end_flags.Goals as goal

pub loop-k-init : goal.loop-k-init
loop-k-init c = flags_none _ _

pub end_flag-flags-requires : goal.end_flag-flags-requires
end_flag-flags-requires c = let h = c.loop-k-test.true in (ended_bit _ _ c.requires.2 (omega arith), omega arith)

pub overflow_add-flags : goal.overflow_add-flags
overflow_add-flags c = let h = c.loop-k-test.true in let f = flags_fit _ _ _ (omega arith) c.loop-k.invariant c.end_flag-flags.ensures (omega arith) in search (f, rules)

pub loop-k-preserved : goal.loop-k-preserved
loop-k-preserved c = let h = c.loop-k-test.true in flags_more _ _ _ (omega arith) c.loop-k.invariant c.end_flag-flags.ensures

pub returns : goal.returns
returns c = to_end (end_flags _ _) _ _ c.loop-k.invariant (search rules) c.loop-k-test.false
