-- A loop that counts. Assumes nothing.
use mathlib.Core.Path.{◌≡◌, subst}
use Prim.Native.Nat.{ℕ, ◌≤◌}
use native.Mathlib.Omega.{arith}

-- a loop that counted to its end has done as many rounds as it has
pub to_end : {A : Type 0} (f : ℕ → A) (n k : ℕ) {a : A} → a ≡ f n → n ≤ k → k ≤ n → a ≡ f k
to_end f n k {a} e l h = let q : n ≡ k = omega arith in subst (λ (i : ℕ). a ≡ f i) q e
