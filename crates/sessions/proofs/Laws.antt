-- Laws of raw fills, and of a run of bytes that ends a line. Assumes nothing.
use Rattle.std.proofs.Common.{◌≡◌, refl, sym, ◌∙◌, Bool, true, false, cond, List, [], ◌∷◌, ℕ, ◌+◌, ◌≤◌, ◌<◌, eqb, set}
use native.Mathlib.Numerals.{add-one}
use native.Mathlib.Omega.{arith}
use Rattle.lines.specs.Line.{feed_of, scan_of}
use Rattle.lines.specs.declared.Line.{Line}
use Rattle.lines.specs.declared.Scanned.{Scanned}
use Rattle.lines.specs.declared.Scanned.TheVariants.{Ended}
use Rattle.sessions.specs.Fill.{filled_of}

pub filled_none : (xs : List ℕ) (from b : ℕ) → xs ≡ filled_of xs from b 0
unfolding filled_of
filled_none xs from b = refl

pub filled_more : (xs : List ℕ) (from b k : ℕ) {ys zs : List ℕ} → ys ≡ filled_of xs from b k → zs ≡ set ys (from + k) b → zs ≡ filled_of xs from b (k + 1)
unfolding filled_of
filled_more xs from b k e f = rw (f, e, add-one)

pub filled_all : (xs : List ℕ) (from b n k : ℕ) {ys : List ℕ} → k ≤ n → n ≤ k → ys ≡ filled_of xs from b k → ys ≡ filled_of xs from b n
filled_all xs from b n k h l e = let p : k ≡ n = omega arith in rw p at e

-- a line's end lies past where the reading began
scan_past : (l : Line) (i : ℕ) (bs : List ℕ) {k : Line} {j : ℕ} → scan_of l i bs ≡ Ended k j → i < j
unfolding scan_of
scan_past l i [] e = cc
scan_past l i (b ∷ bs) {k} {j} e = by (eqb b 10) (scan_past (feed_of l b) (i + 1) bs) e
  where
    by : (x : Bool) → (scan_of (feed_of l b) (i + 1) bs ≡ Ended k j → i + 1 < j)
        → cond x (Ended l (i + 1)) (scan_of (feed_of l b) (i + 1) bs) ≡ Ended k j → i < j
    by true r e = let q : i + 1 ≡ j = cc in omega arith
    by false r e = let h = r e in omega arith

pub ended_past : (l : Line) (i : ℕ) (bs : List ℕ) {r : Scanned} {k : Line} {j : ℕ} → r ≡ scan_of l i bs → r ≡ Ended k j → i < j
ended_past l i bs e h = scan_past l i bs (sym e ∙ h)
