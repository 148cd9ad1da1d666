use mathlib.Core.Path.{◌≡◌}
use Prim.Native.Nat.{◌-◌}
use Rattle.text.specs.Text.{digits_of}
use Rattle.text.proofs.Numbers.{power_at}
use Rattle.text.proofs.Laws.{Left}
use Rattle.text.proofs.Output.put_digits.Given as goal

abbrev pub invariant-loop-i : goal.invariant-loop-i
invariant-loop-i l = (l.p ≡ power_at l.base (l.k - l._i)) × Left (digits_of l.base l.n l.k) l.initial.self (digits_of l.base l.n (l.k - l._i)) l.self
