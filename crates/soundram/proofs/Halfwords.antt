-- Laws of halfwords and marks; none asks that an address lies in what is lent. Assumes nothing.
use mathlib.Core.Path.{◌≡◌, refl, ap, ap₂, sym, ◌∙◌}
use mathlib.Core.Bool.{Bool, true, false, cond}
use mathlib.Core.List.{List, [], ◌∷◌}
use Prim.Native.Nat.{ℕ, suc, zero, ◌+◌, ◌*◌, ◌/◌, ◌%◌, ◌^◌, ◌<◌, max}
use native.Mathlib.Nat.{max-zero, mul-div_cancel, mul-mod_left, pow-suc, zero-lt-suc}
use native.Mathlib.Numerals.{one-add}
use native.Mathlib.Omega.{arith}
use native.Mathlib.Decide.{dec_lt, ℕ_discrete}
use lib.Bits.{bit_or, or_step, or_zero_r}
use lib.Dec.{eqb}
use lib.ListN.{length, get_or, set, length-set}
use lib.Pow.{shr-shr}
use lib.Seq.{get_or-set_same, get_or-set_other, set-get_or, set_out}
use borrow.Author.Tests.{eqb-false, eq-eqb, ne_eqb}
use Rattle.fixed.specs.Bits.{field}
use Rattle.fixed.proofs.Bits.{bit_other, bit_clear, one_shl}
use Rattle.soundram.specs.Memory.{half, put_half, marked, mark}
use Rattle.soundram.specs.TwoRuns.{AgreeAt}

-- ---- halfwords

pub put_half_length : (ram : List ℕ) (h v : ℕ) → length (put_half ram h v) ≡ length ram
unfolding put_half
put_half_length ram h v = simp length-set

-- a halfword is put by its two bytes, as `to_le_bytes` gives them
pub put_bytes : (ram : List ℕ) (h v : ℕ) → v < 0x10000 → set (set ram (h * 2) (v % 256)) (h * 2 + 1) (v / 256 % 256) ≡ put_half ram h v
unfolding put_half
put_bytes ram h v l = ap (λ (x : ℕ). set (set ram (h * 2) (v % 256)) (h * 2 + 1) x) (omega arith)

pub half_agree : {r s : List ℕ} {h : ℕ} → AgreeAt r s h → half r h ≡ half s h
unfolding half
half_agree a = ap₂ (λ (x y : ℕ). x + y * 256) a.low a.high

-- what a store leaves at its place goes by the length alone
stored : (l₁ l₂ : List ℕ) (i a : ℕ) → length l₁ ≡ length l₂ → get_or (set l₁ i a) i 0 ≡ get_or (set l₂ i a) i 0
stored [] [] i a e = refl
stored [] (y ∷ ys) i a e = absurd (omega arith)
stored (x ∷ xs) [] i a e = absurd (omega arith)
stored (x ∷ xs) (y ∷ ys) zero a e = refl
stored (x ∷ xs) (y ∷ ys) (suc i) a e = stored xs ys i a (omega arith)

pub agree_same : (r s : List ℕ) (h v : ℕ) → length r ≡ length s → AgreeAt (put_half r h v) (put_half s h v) h
unfolding put_half
agree_same r s h v e =
    let ne : h * 2 ≡ h * 2 + 1 → ⊥ = λ p. omega arith in
    record {
      low =
          get_or-set_other (set r (h * 2) (v % 256)) (h * 2 + 1) (h * 2) (v / 256) 0 ne
          ∙ stored r s (h * 2) (v % 256) e
          ∙ sym (get_or-set_other (set s (h * 2) (v % 256)) (h * 2 + 1) (h * 2) (v / 256) 0 ne);
      high = stored (set r (h * 2) (v % 256)) (set s (h * 2) (v % 256)) (h * 2 + 1) (v / 256) (simp length-set e);
    }

-- a byte of another halfword stays
kept : (r : List ℕ) (h v i : ℕ) → (i ≡ h * 2 → ⊥) → (i ≡ h * 2 + 1 → ⊥) → get_or (put_half r h v) i 0 ≡ get_or r i 0
unfolding put_half
kept r h v i p q =
    get_or-set_other (set r (h * 2) (v % 256)) (h * 2 + 1) i (v / 256) 0 q ∙ get_or-set_other r (h * 2) i (v % 256) 0 p

pub agree_other : (r s : List ℕ) (h v x : ℕ) → (x ≡ h → ⊥) → AgreeAt r s x → AgreeAt (put_half r h v) (put_half s h v) x
agree_other r s h v x ne a =
    record {
      low = kept r h v (x * 2) (λ p. ne (omega arith)) (λ p. omega arith) ∙ a.low ∙ sym (kept s h v (x * 2) (λ p. ne (omega arith)) (λ p. omega arith));
      high = kept r h v (x * 2 + 1) (λ p. omega arith) (λ p. ne (omega arith)) ∙ a.high ∙ sym (kept s h v (x * 2 + 1) (λ p. omega arith) (λ p. ne (omega arith)));
    }

-- ---- marks

-- a bit and the digits above the lowest
or_double : (k b : ℕ) → bit_or b (2 ^ suc k) ≡ bit_or (b / 2) (2 ^ k) * 2 + b % 2
or_double k b =
    let p = pow-suc 2 k in
    or_step b (2 ^ suc k)
    ∙ ap₂ (λ (x y : ℕ). bit_or (b / 2) x * 2 + max (b % 2) y) (ap (λ (x : ℕ). x / 2) p ∙ mul-div_cancel (2 ^ k) (zero-lt-suc 1)) (ap (λ (x : ℕ). x % 2) p ∙ mul-mod_left (2 ^ k) 2)
    ∙ ap (λ (x : ℕ). bit_or (b / 2) (2 ^ k) * 2 + x) (max-zero (b % 2))

field_half : (k b : ℕ) → field k 1 (b / 2) ≡ field (suc k) 1 b
field_half k b = ap (λ (x : ℕ). x % 2) (shr-shr b 1 k ∙ ap (λ (x : ℕ). b / 2 ^ x) (one-add k))

or_set : (k b : ℕ) → field k 1 b ≡ 1 → bit_or b (2 ^ k) ≡ b
or_set zero b e =
    let p : b % 2 ≡ 1 = omega arith in
    or_step b 1 ∙ ap₂ (λ (x y : ℕ). x * 2 + max y 1) (or_zero_r (b / 2)) p ∙ omega arith
or_set (suc k) b e = or_double k b ∙ ap (λ (x : ℕ). x * 2 + b % 2) (or_set k (b / 2) (field_half k b ∙ e)) ∙ omega arith

or_clear : (k b : ℕ) → field k 1 b ≡ 0 → bit_or b (2 ^ k) ≡ b + 2 ^ k
or_clear zero b e =
    let p : b % 2 ≡ 0 = omega arith in
    or_step b 1 ∙ ap₂ (λ (x y : ℕ). x * 2 + max y 1) (or_zero_r (b / 2)) p ∙ omega arith
or_clear (suc k) b e = or_double k b ∙ ap (λ (x : ℕ). x * 2 + b % 2) (or_clear k (b / 2) (field_half k b ∙ e)) ∙ omega (arith, pow-suc 2 k)

-- a halfword is marked by a bitwise or
pub mark_or : (marks : List ℕ) (h : ℕ) → set marks (h / 8) (bit_or (get_or marks (h / 8) 0) (2 ^ (h % 8))) ≡ mark marks h
unfolding mark marked
mark_or marks h =
    let b : ℕ = get_or marks (h / 8) 0 in
    elim (ℕ_discrete (field (h % 8) 1 b) 1) [
      | yes e ↦ ap (λ (x : ℕ). set marks (h / 8) x) (or_set (h % 8) b e) ∙ set-get_or marks (h / 8) 0 ∙ rw (eq-eqb (field (h % 8) 1 b) 1 e)
      | no e ↦ ap (λ (x : ℕ). set marks (h / 8) x) (or_clear (h % 8) b (bit_clear b (h % 8) e)) ∙ rw (ne_eqb (field (h % 8) 1 b) 1 e)
    ]

-- the bit as the code makes it
pub mark_shifted : (marks : List ℕ) (h : ℕ) → set marks (h / 8) (bit_or (get_or marks (h / 8) 0) (1 * 2 ^ (h % 8) % 256)) ≡ mark marks h
mark_shifted marks h = rw (one_shl 8 (h % 8) (omega arith)) (mark_or marks h)

pub mark_length : (marks : List ℕ) (h : ℕ) → length (mark marks h) ≡ length marks
unfolding mark
mark_length marks h = by (marked marks h)
  where
    by : (b : Bool) → length (cond b marks (set marks (h / 8) (get_or marks (h / 8) 0 + 2 ^ (h % 8)))) ≡ length marks
    by true = refl
    by false = length-set marks _ _

-- marking h leaves the bit of any other halfword x
other_bit : (marks : List ℕ) (h x : ℕ) → (x ≡ h → ⊥) → field (h % 8) 1 (get_or marks (h / 8) 0) ≡ 0
    → field (x % 8) 1 (get_or (set marks (h / 8) (get_or marks (h / 8) 0 + 2 ^ (h % 8))) (x / 8) 0) ≡ field (x % 8) 1 (get_or marks (x / 8) 0)
other_bit marks h x ne e =
    elim (ℕ_discrete (x / 8) (h / 8)) [
      | yes p ↦
          elim (dec_lt (h / 8) (length marks)) [
            | yes w ↦
                ap (λ (i : ℕ). field (x % 8) 1 (get_or (set marks (h / 8) (get_or marks (h / 8) 0 + 2 ^ (h % 8))) i 0)) p
                ∙ ap (λ (b : ℕ). field (x % 8) 1 b) (get_or-set_same marks (h / 8) _ 0 w)
                ∙ bit_other (get_or marks (h / 8) 0) (h % 8) (x % 8) (λ q. ne (omega arith)) e
                ∙ ap (λ (i : ℕ). field (x % 8) 1 (get_or marks i 0)) (sym p)
            | no w ↦ ap (λ (l : List ℕ). field (x % 8) 1 (get_or l (x / 8) 0)) (set_out marks (h / 8) _ (omega arith))
          ]
      | no q ↦ ap (λ (b : ℕ). field (x % 8) 1 b) (get_or-set_other marks (h / 8) (x / 8) _ 0 q)
    ]

pub mark_other : (marks : List ℕ) (h x : ℕ) → (x ≡ h → ⊥) → marked (mark marks h) x ≡ marked marks x
unfolding marked mark
mark_other marks h x ne = by (marked marks h) refl
  where
    by : (b : Bool) → marked marks h ≡ b → marked (cond b marks (set marks (h / 8) (get_or marks (h / 8) 0 + 2 ^ (h % 8)))) x ≡ marked marks x
    by true e = refl
    by false e = ap (λ (b : ℕ). eqb b 1) (other_bit marks h x ne (bit_clear _ _ (eqb-false _ _ e)))
