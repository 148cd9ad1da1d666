-- Laws of what bench prints of a number. Assumes nothing.
use mathlib.Core.Path.{◌≡◌}
use mathlib.Core.List.{[]}
use Prim.Native.Nat.{ℕ}
use borrow.Author.Tests.{eq-eqb, ne_eqb}
use lib.Dec.{eqb}
use Rattle.text.specs.Output.{Puts}
use Rattle.text.specs.declared.Output.{Output}
use Rattle.text.proofs.Laws.{puts_none, puts_set, puts_clear}
use Rattle.answers.specs.Answer.{refused_text, bench_number}

pub number_done : (n : ℕ) (p : Output) → n ≡ 0 → Puts (bench_number n) p p
unfolding bench_number
number_done n p e = puts_set (eqb n 0) [] (refused_text n) (eq-eqb n 0 e) (puts_none p)

pub number_refused : (n : ℕ) {p q : Output} → (n ≡ 0 → ⊥) → Puts (refused_text n) p q → Puts (bench_number n) p q
unfolding bench_number
number_refused n e h = puts_clear (eqb n 0) [] (refused_text n) (ne_eqb n 0 e) h
