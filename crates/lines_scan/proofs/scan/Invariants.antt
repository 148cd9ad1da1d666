use Rattle.lines.specs.Line.{scan_of}
use lib.ListN.{drop}
use mathlib.Core.Path.{◌≡◌}
use Prim.Native.Nat.{◌+◌}
use Rattle.lines_scan.proofs.scan.Given as goal

abbrev pub invariant-loop-i : goal.invariant-loop-i
invariant-loop-i l = scan_of l.line (l.from + l.i) (drop l.i l.rest) ≡ scan_of l.initial.line l.from (drop l.from l.bytes)
