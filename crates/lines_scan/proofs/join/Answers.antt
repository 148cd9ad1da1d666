use mathlib.Core.Path.{◌≡◌}
use native.Mathlib.Omega.{arith}
use Prim.Native.Nat.{◌+◌, min}
use Rattle.lines.specs.Line.{joined_of}
use Rattle.lines_scan.proofs.join.Goals as goal

pub returns : goal.returns
unfolding joined_of
returns c = let n : c.min.result ≡ min (c.args.l.count + 1) 34 = omega arith in cc
