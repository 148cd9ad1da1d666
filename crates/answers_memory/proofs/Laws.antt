-- Laws of what is shown one element after another. Assumes nothing.
use mathlib.Core.Path.{◌≡◌, refl}
use mathlib.Core.Bool.{Bool}
use mathlib.Core.List.{List, [], ◌++◌}
use Prim.Native.Nat.{ℕ, zero, suc, ◌+◌, ◌-◌, ◌/◌, ◌%◌, ◌^◌, ◌≤◌, ◌<◌}
use native.Mathlib.Nat.{sub-zero}
use native.Mathlib.Omega.{arith}
use lib.Dec.{eqb}
use lib.ListN.{get_or}
use Rattle.soundram.specs.Memory.{marked}
use Rattle.text.specs.Text.{hex_text, flag_text}
use Rattle.text.specs.Output.{Puts}
use Rattle.text.specs.declared.Output.{Output}
use Rattle.text.proofs.Laws.{Left, left_all, left_then, left_none}
use Rattle.answers.specs.Answer.{hex_part, halfwords_from, bytes_from, marks_from}

-- ---- one element's text after another's, from index i on

module _ (part : ℕ → List ℕ) (parts : ℕ → ℕ → List ℕ) (none : (i : ℕ) → parts i zero ≡ []) (more : (i m : ℕ) → parts i (suc m) ≡ part i ++ parts (i + 1) m) where
  repeat_more : (i end : ℕ) {w : List ℕ} {p₀ p q : Output} → i < end → Left w p₀ (parts i (end - i)) p → Puts (part i) p q
      → Left w p₀ (parts (i + 1) (end - (i + 1))) q
  repeat_more i end {w} {p₀} {p} h l k =
      let d : end - i ≡ suc (end - (i + 1)) = omega arith in
      left_then (rw (d, more) at l) k

  repeat_none : (i end : ℕ) {w : List ℕ} {p₀ p : Output} → end ≤ i → Left w p₀ (parts i (end - i)) p → Puts w p₀ p
  repeat_none i end h l = let d : end - i ≡ 0 = omega arith in left_none (rw (d, none) at l)

-- before the first
first_of : (parts : ℕ → ℕ → List ℕ) (i n : ℕ) (p : Output) → Left (parts i n) p (parts i (i + n - i)) p
first_of parts i n p = let d : i + n - i ≡ n = omega arith in rw d (left_all (parts i n) p)

module _ (hs : List ℕ) where
  pub halfwords_all : (n : ℕ) (p : Output) → Left (halfwords_from hs 0 n) p (halfwords_from hs 0 (n - 0)) p
  halfwords_all n p = rw sub-zero (left_all (halfwords_from hs 0 n) p)

  pub halfwords_more : (i end : ℕ) {b : ℕ} {w : List ℕ} {p₀ p q : Output} → i < end → Left w p₀ (halfwords_from hs i (end - i)) p
      → b ≡ get_or hs i 0 → Puts (hex_part b 4) p q → Left w p₀ (halfwords_from hs (i + 1) (end - (i + 1))) q
  unfolding halfwords_from
  halfwords_more i end h l e k = repeat_more (λ i. hex_part (get_or hs i 0) 4) (halfwords_from hs) (λ i. refl) (λ i n. refl) i end h l (rw e at k)

  pub halfwords_none : (i end : ℕ) {w : List ℕ} {p₀ p : Output} → end ≤ i → Left w p₀ (halfwords_from hs i (end - i)) p → Puts w p₀ p
  unfolding halfwords_from
  halfwords_none i end h l = repeat_none (λ i. hex_part (get_or hs i 0) 4) (halfwords_from hs) (λ i. refl) (λ i n. refl) i end h l

module _ (bs : List ℕ) where
  pub bytes_all : (i n : ℕ) (p : Output) → Left (bytes_from bs i n) p (bytes_from bs i (i + n - i)) p
  bytes_all i n p = first_of (bytes_from bs) i n p

  pub bytes_more : (i end : ℕ) {b : ℕ} {w : List ℕ} {p₀ p q : Output} → i < end → Left w p₀ (bytes_from bs i (end - i)) p
      → b ≡ get_or bs i 0 → Puts (hex_text b 2) p q → Left w p₀ (bytes_from bs (i + 1) (end - (i + 1))) q
  unfolding bytes_from
  bytes_more i end h l e k = repeat_more (λ i. hex_text (get_or bs i 0) 2) (bytes_from bs) (λ i. refl) (λ i n. refl) i end h l (rw e at k)

  pub bytes_none : (i end : ℕ) {w : List ℕ} {p₀ p : Output} → end ≤ i → Left w p₀ (bytes_from bs i (end - i)) p → Puts w p₀ p
  unfolding bytes_from
  bytes_none i end h l = repeat_none (λ i. hex_text (get_or bs i 0) 2) (bytes_from bs) (λ i. refl) (λ i n. refl) i end h l

  pub marks_all : (i n : ℕ) (p : Output) → Left (marks_from bs i n) p (marks_from bs i (i + n - i)) p
  marks_all i n p = first_of (marks_from bs) i n p

  pub marks_more : (i end : ℕ) {b : Bool} {w : List ℕ} {p₀ p q : Output} → i < end → Left w p₀ (marks_from bs i (end - i)) p
      → b ≡ marked bs i → Puts (flag_text b) p q → Left w p₀ (marks_from bs (i + 1) (end - (i + 1))) q
  unfolding marks_from
  marks_more i end h l e k = repeat_more (λ i. flag_text (marked bs i)) (marks_from bs) (λ i. refl) (λ i n. refl) i end h l (rw e at k)

  pub marks_none : (i end : ℕ) {w : List ℕ} {p₀ p : Output} → end ≤ i → Left w p₀ (marks_from bs i (end - i)) p → Puts w p₀ p
  unfolding marks_from
  marks_none i end h l = repeat_none (λ i. flag_text (marked bs i)) (marks_from bs) (λ i. refl) (λ i n. refl) i end h l

-- ---- a mark

pub mark_is : (ms : List ℕ) (h : ℕ) {b : ℕ} → b ≡ get_or ms (h / 8) 0 → eqb (b / 2 ^ (h % 8) % 2) 1 ≡ marked ms h
unfolding marked
mark_is ms h e = rw e
