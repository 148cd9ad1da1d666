-- Bytes that stand at a place, and the numbers that they are read as. Assumes nothing.
use mathlib.Core.Path.{◌≡◌, refl, sym, ap, subst, ◌∙◌}
use mathlib.Core.List.{List, ◌∷◌, ◌++◌}
use Prim.Native.Nat.{ℕ, zero, suc, ◌+◌, ◌*◌, ◌/◌, ◌%◌, ◌<◌}
use native.Mathlib.Nat.{add-zero, add_assoc}
use native.Mathlib.Decide.{dec_lt}
use native.Mathlib.Omega.{arith}
use lib.ListN.{length, get_or, length-append, get_or-append}
use lib.Seq.{get_or-append-add}
use Rattle.little_endian.specs.Bytes.{each, half_bytes, word_bytes, half_at, word_at}
use Rattle.little_endian.proofs.Puts.{each_length}

pub record Has (bs : List ℕ) (at : ℕ) (ys : List ℕ) : Type 0 where
  pub is : (i : ℕ) → i < length ys → get_or bs (at + i) 0 ≡ get_or ys i 0

pub all : (bs : List ℕ) → Has bs 0 bs
all bs = record { is = λ i h. let e : 0 + i ≡ i = omega arith in rw e }

pub first : {bs : List ℕ} {at : ℕ} (ys zs : List ℕ) → Has bs at (ys ++ zs) → Has bs at ys
first ys zs h = record { is = λ i l. let m = length-append ys zs in h.is i (omega arith) ∙ get_or-append ys zs 0 i l }

pub rest : {bs : List ℕ} {at a : ℕ} (ys zs : List ℕ) → Has bs at (ys ++ zs) → a ≡ at + length ys → Has bs a zs
rest {bs} {at} {a} ys zs h e =
    record {
      is = λ i l.
          let m = length-append ys zs in
          rw (e, add_assoc) (h.is (length ys + i) (omega arith) ∙ get_or-append-add ys zs i 0);
    }

pub part : {bs : List ℕ} {at a : ℕ} (ys ws zs : List ℕ) → Has bs at (ys ++ (ws ++ zs)) → a ≡ at + length ys → Has bs a ws
part ys ws zs h e = first ws zs (rest ys (ws ++ zs) h e)

pub one : {bs : List ℕ} {at y : ℕ} {zs : List ℕ} → Has bs at (y ∷ zs) → get_or bs at 0 ≡ y
one {bs} {at} {y} {zs} h = rw add-zero at (h.is 0 (omega arith))

-- ---- numbers

pub half_read : {bs : List ℕ} {at : ℕ} (v : ℕ) → Has bs at (half_bytes v) → half_at bs at ≡ v
unfolding half_at
half_read v h = rw (one h, h.is 1 (omega arith)) (omega arith)

pub word_read : {bs : List ℕ} {at : ℕ} (v : ℕ) → Has bs at (word_bytes v) → word_at bs at ≡ v
unfolding word_at
word_read {bs} {at} v h =
    let a = half_read (v % 0x10000) (first (half_bytes (v % 0x10000)) (half_bytes (v / 0x10000)) h) in
    let b = half_read {at = at + 2} (v / 0x10000) (rest (half_bytes (v % 0x10000)) (half_bytes (v / 0x10000)) h refl) in
    rw (a, b) (omega arith)

-- ---- lists

pub each_read : {bs : List ℕ} {at : ℕ} (f : ℕ → List ℕ) (m n : ℕ) → ((k : ℕ) → length (f k) ≡ m) → Has bs at (each f n) → (k : ℕ) → k < n → Has bs (at + k * m) (f k)
unfolding each
each_read f m zero l h k b = absurd (omega arith)
each_read {bs} {at} f m (suc n) l h k b =
    elim (dec_lt k n) [
      | yes q ↦ each_read f m n l (first (each f n) (f n) h) k q
      | no q ↦
          let e : n ≡ k = omega arith in
          subst (λ (i : ℕ). Has bs (at + i * m) (f i)) e (rest (each f n) (f n) h (ap (λ (i : ℕ). at + i) (sym (each_length f m l n))))
    ]
