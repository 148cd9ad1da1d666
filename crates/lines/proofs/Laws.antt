-- Laws of digits and of numbers up to a limit. Assumes nothing.
use mathlib.Core.Path.{◌≡◌, sym, ◌∙◌}
use mathlib.Core.Bool.{Bool, ◌&&◌}
use Prim.Native.Nat.{ℕ, ◌+◌, ◌-◌, ◌*◌, ◌^◌, ◌≤◌, ◌<◌, min}
use native.Mathlib.Omega.{arith}
use native.Mathlib.Nat.{le_trans, lt_of_le_of_lt, mul-le-mul, min-eq_left, min-eq_right, min-le_right, le-mul_of_pos_right}
use native.Mathlib.Decide.{dec_le}
use lib.Dec.{eqb, ltb, lit<, eqb→eq}
use mir.Syntax.{w64}
use mir.Val.{Fits}
use borrow.Author.Tests.{eq-eqb, ne_eqb}
use Rattle.std.specs.Char.{digit_value}
use Rattle.fixed.proofs.Table.{below_at}
use Rattle.lines.specs.Fields.{digit_of}
use Rattle.lines.specs.Line.{length_limit, word_limit, value_limit, count_limit, more_of, joined_of, ended_of}
use Rattle.lines.specs.declared.Field.{Field}
use Rattle.lines.specs.declared.Line.{Line}

-- ---- digits

digit_same : ℕ → Bool
unfolding digit_of
digit_same b = eqb (digit_of b) (min (digit_value b) 16)

-- the library's value of a digit, up to 16
pub digit_is : (b : ℕ) → b < 256 → digit_of b ≡ min (digit_value b) 16
unfolding digit_same digit_of
digit_is b h = eqb→eq _ _ (below_at 256 digit_same tt b h)

pub digit_small : (b : ℕ) {d : ℕ} → b < 256 → d ≡ digit_of b → d ≤ 256
digit_small b h e = let k = digit_is b h in omega (arith, e, k)

-- ---- up to a limit

-- what is already past the limit may be held to it before a digit joins
pub limited : (n base d limit : ℕ) → 0 < base → min (min n limit * base + d) limit ≡ min (n * base + d) limit
limited n base d limit h = by (dec_le n limit)
  where
    by : Dec (n ≤ limit) → min (min n limit * base + d) limit ≡ min (n * base + d) limit
    by (yes p) = rw (min-eq_left p)
    by (no q) =
        let p : limit ≤ n = omega arith in
        let a = le-mul_of_pos_right limit h in
        let b = le-mul_of_pos_right n h in
        rw (min-eq_right p) (min-eq_right {n = limit} {m = limit * base + d} (omega arith) ∙ sym (min-eq_right {n = limit} {m = n * base + d} (omega arith)))

-- one digit more, of a number m that was held to the limit
module _ (n m base d limit : ℕ) (e : m ≡ min n limit) (most : base ≤ 256) (low : limit ≤ 0x1000000000000) where
  product_most : m * base ≤ 0x100000000000000
  product_most = mul-le-mul (le_trans (rw e (min-le_right n limit)) low) most

  pub longer_is : {r : ℕ} → 0 < base → r ≡ min (m * base + d) limit → r ≡ min (n * base + d) limit
  longer_is h q = q ∙ rw e (limited n base d limit h)

pub longer_product : (n m base limit : ℕ) → m ≡ min n limit → base ≤ 256 → limit ≤ 0x1000000000000 → Fits w64 (m * base)
longer_product n m base limit e most low = record { fits = lt_of_le_of_lt (product_most n m base 0 limit e most low) (lit< tt) }

pub longer_sum : (n m base d limit : ℕ) → m ≡ min n limit → base ≤ 256 → limit ≤ 0x1000000000000 → d ≤ 256 → Fits w64 (m * base + d)
longer_sum n m base d limit e most low h =
    let p = product_most n m base d limit e most low in
    record { fits = omega arith }

-- ---- fields

pub more_parts : (f : Field) (b d : ℕ) {l₀ l w v k : ℕ} → d ≡ digit_of b
    → l₀ ≡ min (f.length + 1) (2 ^ 64 - 1) → l ≡ min l₀ length_limit → w ≡ min (f.word * 256 + b) word_limit
    → v ≡ min (f.value * 16 + d) value_limit → k ≡ min (f.count * 10 + d) count_limit
    → record { length = l; word = w; hex = f.hex && ltb d 16; value = v; decimal = f.decimal && ltb d 10; count = k } ≡ more_of f b
unfolding more_of
more_parts f b d {l₀} {l} e o p q r s =
    let x : l ≡ min (f.length + 1) length_limit = omega arith in
    rw (x, q, r, s, e)

-- ---- lines

pub ended_same : (l : Line) → l.running.length ≡ 0 → l ≡ ended_of l
unfolding ended_of
ended_same l e = rw (eq-eqb l.running.length 0 e)

pub ended_joined : (l : Line) {r : Line} → (l.running.length ≡ 0 → ⊥) → r ≡ joined_of l → r ≡ ended_of l
unfolding ended_of
ended_joined l h e = rw (ne_eqb l.running.length 0 h) e
