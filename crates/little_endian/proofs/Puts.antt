-- Bytes that are put one after another. Assumes nothing.
use mathlib.Core.Path.{◌≡◌, refl, sym, ap, ◌∙◌}
use mathlib.Core.List.{List, [], ◌∷◌, ◌++◌, append_assoc, append-nil}
use Prim.Native.Nat.{ℕ, zero, suc, ◌+◌, ◌*◌, ◌≤◌, ◌<◌}
use native.Mathlib.Numerals.{add-one}
use native.Mathlib.Nat.{add-zero, add_assoc}
use native.Mathlib.Omega.{arith}
use lib.ListN.{length, set, drop, length-set, length-append, take-append-drop}
use lib.Seq.{take-suc-set, drop-set-lt, drop-drop}
use Rattle.little_endian.specs.Bytes.{each, Put}

pub put_one_lem : (xs : List ℕ) (at v : ℕ) → at < length xs → Put (v ∷ []) xs at (set xs at v)
put_one_lem xs at v h =
    record {
      is = rw (add-one, take-suc-set xs at v h);
      past = drop-set-lt (at + 1) xs at v (omega arith);
      size = length-set xs at v;
    }

pub put_none : (xs : List ℕ) (at : ℕ) → Put [] xs at xs
put_none xs at = record { is = rw (add-zero, append-nil); past = refl; size = refl }

pub put_then : {ys zs xs xs' xs'' : List ℕ} {at : ℕ} → Put ys xs at xs' → Put zs xs' (at + length ys) xs'' → Put (ys ++ zs) xs at xs''
put_then {ys} {zs} {xs} {xs'} {xs''} {at} p q =
    record {
      is = rw (length-append, ← add_assoc) (q.is ∙ rw (p.is, append_assoc));
      past = rw (length-append, ← add_assoc) (q.past ∙ further (at + length ys) (length zs) p.past);
      size = q.size ∙ p.size;
    }
  where
    further : (n m : ℕ) → drop n xs' ≡ drop n xs → drop (n + m) xs' ≡ drop (n + m) xs
    further n m e = sym (drop-drop m n xs') ∙ ap (drop m) e ∙ drop-drop m n xs

-- at a place that is given otherwise
pub put_at_lem : {ys zs xs xs' xs'' : List ℕ} {at a : ℕ} → Put ys xs at xs' → Put zs xs' a xs'' → a ≡ at + length ys → Put (ys ++ zs) xs at xs''
put_at_lem {ys} {zs} {xs} {xs'} {xs''} {at} {a} p q e = put_then p (rw e at q)

-- what begins at the first place is followed by what stood there
pub put_first : (ys : List ℕ) {xs xs' : List ℕ} → Put ys xs 0 xs' → xs' ≡ ys ++ drop (length ys) xs
put_first ys {xs} {xs'} p =
    let q : 0 + length ys ≡ length ys = omega arith in
    sym (take-append-drop (length ys) xs') ∙ rw (rw q at p.is, rw q at p.past)

-- ---- a list, element by element

pub each_length : {A : Type 0} (f : ℕ → List A) (m : ℕ) → ((k : ℕ) → length (f k) ≡ m) → (n : ℕ) → length (each f n) ≡ n * m
unfolding each
each_length f m l zero = omega arith
each_length f m l (suc n) = let e = each_length f m l n in length-append (each f n) (f n) ∙ rw (e, l n) (omega arith)

pub each_none : (f : ℕ → List ℕ) (xs : List ℕ) (at : ℕ) → Put (each f 0) xs at xs
unfolding each
each_none f xs at = put_none xs at

pub each_more : (f : ℕ → List ℕ) (m n : ℕ) {xs xs' xs'' : List ℕ} {at : ℕ} → ((k : ℕ) → length (f k) ≡ m) → Put (each f n) xs at xs' → Put (f n) xs' (at + n * m) xs''
    → Put (each f (n + 1)) xs at xs''
unfolding each
each_more f m n l p q = rw add-one (put_at_lem p q (rw (each_length f m l n)))

pub each_end : (f : ℕ → List ℕ) (n k : ℕ) {xs xs' : List ℕ} {at : ℕ} → Put (each f n) xs at xs' → n ≤ k → k ≤ n → Put (each f k) xs at xs'
each_end f n k p h g = let q : n ≡ k = omega arith in rw q at p
