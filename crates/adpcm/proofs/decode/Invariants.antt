use mathlib.Core.Path.{◌≡◌}
use Prim.Native.Nat.{◌*◌}
use lib.ListN.{length}
use Rattle.adpcm.specs.Adpcm.{block_of}
use Rattle.adpcm.proofs.Laws.{Part}
use Rattle.adpcm.proofs.decode.Given as goal

abbrev pub invariant-loop-i : goal.invariant-loop-i
invariant-loop-i l =
    (length l.out ≡ 28) × Part l.coding.header l.fn.bytes (block_of l.fn.bytes l.fn.old l.fn.older) l.out l.before (l.i * 2)
