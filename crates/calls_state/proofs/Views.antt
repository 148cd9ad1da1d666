-- The block view of a buffer's state, from its number. Assumes nothing.
use mathlib.Core.Path.{◌≡◌, refl, sym, ◌∙◌}
use mathlib.Core.Bool.{Bool, true, false, cond, not, ◌||◌}
use mathlib.Core.List.{List, [], ◌∷◌}
use Prim.Native.Nat.{ℕ, ◌+◌, ◌-◌, ◌%◌, ◌≤◌}
use native.Mathlib.Omega.{arith}
use borrow.Author.Tests.{eqb-true, ltb-false, not-false, ne_eqb, eq-eqb}
use lib.Dec.{eqb, ltb}
use lib.ListN.{length, take, drop, length-drop}
use lib.Seq.{length-take-le}
use Rattle.fixed.proofs.Bools.{or_rest}
use Rattle.chip.proofs.Tests.{ok_sized}
use Rattle.layout.specs.Layout.{state_of, is_tagged, is_state, Halfwords}
use Rattle.layout.proofs.Laws.{self_holds}
use Rattle.layout.proofs.Ranges.{state_formed}
use Rattle.spu.specs.Step.{view, viewed, test, first_of, outside, bad_block, number_of, refused_of, accepted_of}
use Rattle.spu.proofs.Range.{passed_first, passed_rest}
use Rattle.spu.proofs.Numbers.{here, later, none}
use Rattle.calls.specs.Kept.{number_in, Keeps, view_of, view_length}
use Rattle.calls.proofs.Kept.{state_ok_lem, accepted_state, accepted_number, kept_refused, kept_still, tagged_not, tagged_yes, size_is, test_is}

-- ---- its number: ys is the tagged buffer that xs is, z the L in it, b the code's test of the whole state

module _ (xs : List ℕ) (a ram : ℕ) where
  pub view_untagged : is_tagged xs ≡ false → 2 ≡ number_in (view a) xs ram 0
  unfolding number_in
  view_untagged t = tagged_not xs _ t

  module _ {ys : List ℕ} (t : (ys ≡ xs) × (is_tagged xs ≡ true)) {z : ℕ} (ey : z ≡ (state_of ys).choices.size) where
    ez : z ≡ (state_of xs).choices.size
    ez = size_is xs t ey

    pub view_1 : (ram ≡ z → ⊥) → 1 ≡ number_in (view a) xs ram 0
    unfolding number_in
    view_1 q = tagged_yes xs _ t.1 (here _ 1 _ (rw (← ez, ne_eqb ram z q)))

    module _ (q : ram ≡ z) {b : Bool} (eu : b ≡ is_state ys) where
      eb : b ≡ is_state xs
      eb = test_is xs t eu

      passed_1 : {n : ℕ} → n ≡ first_of (outside (is_state xs) ∷ test (bad_block (state_of xs) a) 8 ∷ []) → n ≡ number_in (view a) xs ram 0
      unfolding number_in
      passed_1 g = tagged_yes xs _ t.1 (later _ 1 _ (rw (← ez, eq-eqb ram z q)) g)

      pub view_2 : not b ≡ true → 2 ≡ number_in (view a) xs ram 0
      view_2 u = passed_1 (here _ 2 _ (rw (← eb) u))

      module _ (u : not b ≡ false) where
        pub view_8 : (not (eqb (a % 8) 0) || ltb (z - 16) a) ≡ true → 8 ≡ number_in (view a) xs ram 0
        view_8 v = passed_1 (later _ 2 _ (rw (← eb) u) (here _ 8 _ (rw (← ez) v)))

        pub view_0 : (not (eqb (a % 8) 0) || ltb (z - 16) a) ≡ false → 0 ≡ number_in (view a) xs ram 0
        view_0 v = passed_1 (later _ 2 _ (rw (← eb) u) (later _ 8 _ (rw (← ez) v) none))

pub view_sized : (xs : List ℕ) {z : ℕ} {b : Bool} → z ≡ (state_of xs).choices.size → b ≡ is_state xs → not b ≡ false → 16 ≤ z
view_sized xs ez eb u = let h = ok_sized (state_of xs) (state_ok_lem xs (sym eb ∙ not-false _ u)) in omega arith

-- ---- the call

module _ (xs ram : List ℕ) (a : ℕ) where
  view_same : (marks : ℕ) → number_in (view a) xs (length ram) 0 ≡ number_in (view a) xs (length ram) marks
  unfolding number_in
  view_same marks = refl

  -- what is promised of the number n
  abbrev Views : ℕ → Type 0
  Views n = (n ≡ number_in (view a) xs (length ram) 0) × ((marks : List ℕ) → Keeps (view a) xs ram marks (viewed n (view_length n)) false false xs ram marks)

  pub view_no : {n : ℕ} → n ≡ number_in (view a) xs (length ram) 0 → (n ≡ 0 → ⊥) → Views n
  unfolding refused_of
  view_no {n} e z = (e, λ marks. rw (ne_eqb n 0 z) (kept_refused (view a) xs ram marks (e ∙ view_same (length marks)) z))

  pub view_yes : 0 ≡ number_in (view a) xs (length ram) 0 → Halfwords xs → Views 0
  unfolding accepted_of
  view_yes e w = (e, λ marks. kept_still (view a) xs ram marks (e ∙ view_same (length marks)) refl refl (self_holds xs (state_formed xs (accepted_state (view a) xs (length ram) 0 e refl))) w)

-- ---- the bytes

module _ (xs ram : List ℕ) (a : ℕ) {n : ℕ} (e : n ≡ number_in (view a) xs (length ram) 0) where
  pub view_none : (n ≡ 0 → ⊥) → [] ≡ view_of xs ram a
  unfolding view_of
  view_none z = rw (← e, ne_eqb n 0 z)

  pub view_some : n ≡ 0 → take (a + 16 - a) (drop a ram) ≡ view_of xs ram a
  unfolding view_of
  view_some z = rw (← e, z, sixteen)
    where
      sixteen : a + 16 - a ≡ 16
      sixteen = omega arith

pub view_inside : (xs : List ℕ) (a k : ℕ) {n : ℕ} → n ≡ number_in (view a) xs k 0 → n ≡ 0 → a + 16 ≤ k
unfolding number_of
view_inside xs a k e z =
    let p = sym (accepted_number (view a) xs k 0 e z) in
    let q = passed_rest _ 0 _ p in
    let h = ok_sized (state_of xs) (not-false _ (passed_first _ 1 _ q)) in
    let l : k ≡ (state_of xs).choices.size = eqb-true _ _ (not-false _ (passed_first _ 0 _ p)) in
    let t : a ≤ (state_of xs).choices.size - 16 = ltb-false _ _ (or_rest (not (eqb (a % 8) 0)) _ (passed_first _ 7 _ (passed_rest _ 1 _ q))) in
    omega arith

-- "of a block view, the number and the length": the length that the call answers is that of the bytes
pub view_answer : (xs ram : List ℕ) (a : ℕ) → view_length (number_in (view a) xs (length ram) 0) ≡ length (view_of xs ram a)
unfolding view_of
view_answer xs ram a = by (eqb (number_in (view a) xs (length ram) 0) 0) refl
  where
    by : (b : Bool) → eqb (number_in (view a) xs (length ram) 0) 0 ≡ b → cond b 16 0 ≡ length (cond b (take 16 (drop a ram)) [])
    by true q =
        let h = view_inside xs a (length ram) refl (eqb-true _ _ q) in
        let d = length-drop a ram in
        sym (length-take-le 16 (drop a ram) (omega arith))
    by false q = refl
