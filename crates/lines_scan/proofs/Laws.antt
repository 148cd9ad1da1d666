-- Laws of a byte more and of a run of bytes. Assumes nothing.
use mathlib.Core.Path.{◌≡◌, sym, ap, ◌∙◌}
use mathlib.Core.Bool.{Bool, true, false}
use mathlib.Core.List.{List}
use Prim.Native.Nat.{ℕ, suc, ◌+◌, ◌-◌, ◌≤◌, ◌<◌, min}
use native.Mathlib.Nat.{add-zero}
use native.Mathlib.Decide.{dec_le}
use native.Mathlib.Omega.{arith}
use Rattle.std.proofs.lemmas.List.{take_rest}
use lib.ListN.{length, get_or, take, drop, drop_of_length-le}
use lib.Seq.{drop-cons}
use borrow.Author.Tests.{eq-eqb, ne_eqb}
use Rattle.lines.specs.Fields.{blank}
use Rattle.lines.specs.Line.{ended_of, begun_of, grown_of, feed_of, scan_of}
use Rattle.lines.specs.declared.Line.{Line}
use Rattle.lines.specs.declared.Scanned.{Scanned}
use Rattle.lines.specs.declared.Scanned.TheVariants.{Ended, Open}

-- ---- a byte more

pub feed_blank : (l : Line) (b : ℕ) {t r : Line} {x : Bool} → t ≡ begun_of l b → x ≡ blank b → x ≡ true → r ≡ ended_of t → r ≡ feed_of l b
unfolding feed_of
feed_blank l b p q h e = rw (← q, h, ← p) e

pub feed_other : (l : Line) (b : ℕ) {t r : Line} {x : Bool} → t ≡ begun_of l b → x ≡ blank b → x ≡ false → r ≡ grown_of t b → r ≡ feed_of l b
unfolding feed_of
feed_other l b p q h e = rw (← q, h, ← p) e

-- ---- a run of bytes

-- those from an index on; none where it is past the end
rest_is : (bytes : List ℕ) (from : ℕ) {m : ℕ} → m ≡ min from (length bytes) → take (length bytes - m) (drop m bytes) ≡ drop from bytes
rest_is bytes from {m} e = take_rest bytes m ∙ by (dec_le from (length bytes))
  where
    by : Dec (from ≤ length bytes) → drop m bytes ≡ drop from bytes
    by (yes p) = let q : m ≡ from = omega arith in rw q
    by (no p) = drop_of_length-le bytes (omega arith) ∙ sym (drop_of_length-le bytes (omega arith))

pub scan_first : (l : Line) (from : ℕ) (bytes : List ℕ) {m : ℕ} → m ≡ min from (length bytes)
    → scan_of l (from + 0) (drop 0 (take (length bytes - m) (drop m bytes))) ≡ scan_of l from (drop from bytes)
scan_first l from bytes e = rw (add-zero, rest_is bytes from e)

module _ (rest : List ℕ) (from i : ℕ) (l : Line) (r : Scanned) (e : scan_of l (from + i) (drop i rest) ≡ r) where
  pub scan_more : {k : Line} → i < length rest → (get_or rest i 0 ≡ 10 → ⊥) → k ≡ feed_of l (get_or rest i 0)
      → scan_of k (from + (i + 1)) (drop (i + 1) rest) ≡ r
  unfolding scan_of
  scan_more h n f =
      let q : from + (i + 1) ≡ from + i + 1 = omega arith in
      let s : i + 1 ≡ suc i = omega arith in
      rw (q, f, s) (sym (rw (ne_eqb (get_or rest i 0) 10 n)) ∙ rw (drop-cons rest i 0 h) at e)

  pub scan_end : i < length rest → get_or rest i 0 ≡ 10 → Ended l (from + i + 1) ≡ r
  unfolding scan_of
  scan_end h n = rw (eq-eqb (get_or rest i 0) 10 n) at (rw (drop-cons rest i 0 h) at e)

  pub scan_out : length rest ≤ i → Open l (from + i) ≡ r
  unfolding scan_of
  scan_out h = rw (drop_of_length-le rest h) at e

  pub scan_all : length rest ≤ i → i ≤ length rest → Open l (from + length rest) ≡ r
  scan_all h g =
      let q : i ≡ length rest = omega arith in
      ap (λ n. Open l (from + n)) (sym q) ∙ scan_out h
