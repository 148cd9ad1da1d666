use native.Mathlib.Omega.{arith}
use borrow.Author.Rules.{rules}
use Rattle.encoder_check.proofs.Laws.{searched_none, searched_samples, searched_more, fault_found, fault_none}
use Rattle.encoder_check.proofs.first_fault.Goals as goal

pub loop-n-init : goal.loop-n-init
loop-n-init c = searched_none _ _ _ c.default-h.ensures

pub judge-fault-requires : goal.judge-fault-requires
judge-fault-requires c = (omega arith, omega arith, searched_samples _ _ _ c.loop-n.invariant c.samples_at-samples.ensures)

pub loop-n-preserved : goal.loop-n-preserved
loop-n-preserved c =
    searched_more _ _ _ c.loop-n.invariant (omega arith) c.judge-fault.ensures c.is_broken.ensures (search rules) c.samples_at-samples.ensures (search rules) c.last_two-h.ensures

pub returns-then-is_broken : goal.returns-then-is_broken
returns-then-is_broken c = fault_found _ _ _ c.loop-n.invariant (omega arith) c.judge-fault.ensures c.is_broken.ensures (search rules)

pub returns : goal.returns
returns c = fault_none _ _ _ c.loop-n.invariant c.pairs_of-pairs.ensures (omega arith) c.loop-n-test.false
