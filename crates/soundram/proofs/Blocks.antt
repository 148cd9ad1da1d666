-- A run of halfwords read as bytes: before it, one halfword more, and its end; and that it is safe. Assumes nothing.
use mathlib.Core.Path.{◌≡◌, ap, subst, ◌∙◌}
use mathlib.Core.Bool.{true}
use mathlib.Core.List.{List, [], ◌∷◌, ◌++◌, append_assoc}
use Prim.Native.Nat.{ℕ, zero, suc, ◌+◌, ◌*◌, ◌/◌, ◌%◌, ◌≤◌, ◌<◌}
use native.Mathlib.Numerals.{add-one}
use native.Mathlib.Omega.{arith}
use lib.ListN.{length, take, set, length-set}
use lib.Seq.{take-suc-set, take_all}
use Rattle.soundram.specs.Address.{forward_of, halfword_of}
use Rattle.soundram.specs.Program.{Mem, Does, get, bytes_from}
use Rattle.soundram.specs.TwoRuns.{Safe}
use Rattle.soundram.specs.declared.ByteAddress.{ByteAddress}
use Rattle.soundram.specs.declared.Reader.{Reader}
use Rattle.soundram.proofs.Programs.{does_done, does_bind}
use Rattle.soundram.proofs.TwoRuns.{safe_done, safe_bind, safe_get}

two_more : (bs : List ℕ) (k x y : ℕ) → k + 1 < length bs → take (suc (suc k)) (set (set bs k x) (k + 1) y) ≡ take k bs ++ x ∷ y ∷ []
two_more bs k x y h =
    rw (add-one k)
    (take-suc-set (set bs k x) (suc k) y (rw (length-set bs k x) (omega arith))
    ∙ ap (λ (l : List ℕ). l ++ y ∷ []) (take-suc-set bs k x (omega arith))
    ∙ append_assoc (take k bs) (x ∷ []) (y ∷ []))

module _ (who : Reader) (size : ℕ) (a : ByteAddress) where
  pub bytes_none : (m : Mem) → Does (bytes_from who size a 0) m [] m
  unfolding bytes_from
  bytes_none m = does_done [] m

  pub bytes_more : (i v : ℕ) (bs : List ℕ) (b : ByteAddress) {m n o : Mem} → length bs ≡ 16 → i < 8
      → Does (bytes_from who size a i) m (take (i * 2) bs) n → b ≡ forward_of size a (i * 2) → Does (get who true (halfword_of b)) n v o
      → Does (bytes_from who size a (i + 1)) m (take ((i + 1) * 2) (set (set bs (i * 2) (v % 256)) (i * 2 + 1) (v / 256))) o
  unfolding bytes_from
  bytes_more i v bs b {o} l h d f e =
      let k : (i + 1) * 2 ≡ suc (suc (i * 2)) = omega arith in
      rw (k, two_more bs (i * 2) (v % 256) (v / 256) (omega arith), add-one i)
      (does_bind _ d (does_bind _ (rw f at e) (does_done _ o)))

  pub bytes_end_lem : (i : ℕ) (bs : List ℕ) {m o : Mem} → Does (bytes_from who size a i) m (take (i * 2) bs) o → i ≤ 8 → 8 ≤ i → length bs ≡ 16
      → Does (bytes_from who size a 8) m bs o
  bytes_end_lem i bs {m} {o} d p q l =
      let e : i ≡ 8 = omega arith in
      let d' : Does (bytes_from who size a 8) m (take 16 bs) o = subst (λ (k : ℕ). Does (bytes_from who size a k) m (take (k * 2) bs) o) e d in
      subst (λ (x : List ℕ). Does (bytes_from who size a 8) m x o) (take_all 16 bs (omega arith)) d'

  pub safe_bytes : (n : ℕ) → Safe (bytes_from who size a n)
  unfolding bytes_from
  safe_bytes zero = safe_done []
  safe_bytes (suc n) = safe_bind (safe_bytes n) (λ bs. safe_bind (safe_get who _) (λ v. safe_done _))
