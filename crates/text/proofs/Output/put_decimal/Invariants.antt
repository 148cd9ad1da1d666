use mathlib.Core.Path.{◌≡◌}
use Prim.Native.Nat.{◌<◌}
use Rattle.text.specs.Text.{digits_of, trimmed, decimal_text}
use Rattle.text.proofs.Numbers.{power_at}
use Rattle.text.proofs.Output.put_decimal.Given as goal

abbrev pub invariant-loop-k : goal.invariant-loop-k
invariant-loop-k l = (0 < l.k) × (l.power ≡ power_at 10 l.k) × (trimmed (digits_of 10 l.n l.k) ≡ decimal_text l.n)

abbrev pub decreases-loop-k : goal.decreases-loop-k
decreases-loop-k l = l.k
