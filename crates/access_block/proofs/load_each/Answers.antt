use mathlib.Core.Path.{refl}
use native.Mathlib.Omega.{arith}
use borrow.Author.Rules.{rules}
use Rattle.soundram.proofs.Addresses.{forward_below}
use Rattle.soundram.proofs.Programs.{within}
use Rattle.soundram.proofs.Blocks.{bytes_none, bytes_more}
use Rattle.access_block.proofs.load_each.Goals as goal

pub loop-i-init : goal.loop-i-init
loop-i-init c = (omega arith, refl, bytes_none _ _ _ _)

pub read-got-requires : goal.read-got-requires
read-got-requires c = search (within, forward_below)

pub loop-i-preserved : goal.loop-i-preserved
loop-i-preserved c =
    let v = c.loop-i.invariant in
    (omega arith, search rules, bytes_more _ _ _ _ _ _ _ v.1 (omega arith) v.2 c.forward.ensures c.read-got.ensures)
