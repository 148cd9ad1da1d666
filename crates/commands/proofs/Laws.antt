-- Laws of the halfwords in a line. Assumes nothing.
use mathlib.Core.Path.{◌≡◌, refl}
use mathlib.Core.List.{List, [], ◌∷◌}
use Prim.Native.Nat.{ℕ, suc, ◌+◌, ◌-◌, ◌≤◌}
use native.Mathlib.Numerals.{add-one}
use native.Mathlib.Omega.{arith}
use lib.ListN.{length, take, drop, replicate, set}
use Rattle.std.proofs.lemmas.List.{take_rest}
use Rattle.lines.specs.declared.Field.{Field}
use Rattle.commands.specs.Command.{halfword, field_in, values_of}

-- ---- halfwords

pub values_none : (fs : List Field) → replicate 33 0 ≡ values_of fs 0
unfolding values_of
values_none fs = refl

-- those after the first
field_after : (fs : List Field) (n : ℕ) → field_in (take (length fs - 1) (drop 1 fs)) n ≡ field_in fs (suc n)
field_after [] n = refl
field_after (f ∷ fs) n = rw (take_rest (f ∷ fs) 1)

pub values_more : (fs : List Field) (n : ℕ) {h : ℕ} {vs : List ℕ} → vs ≡ values_of fs n → h ≡ halfword (field_in (take (length fs - 1) (drop 1 fs)) n)
    → set vs n h ≡ values_of fs (n + 1)
unfolding values_of
values_more fs n {h} {vs} e q = rw (add-one, e, q, field_after fs n)

pub values_all : (fs : List Field) (n : ℕ) {vs : List ℕ} → n ≤ 33 → 33 ≤ n → vs ≡ values_of fs n → vs ≡ values_of fs 33
values_all fs n h k e = let p : n ≡ 33 = omega arith in rw p at e
