-- Laws of numbers as text. Assumes nothing.
use mathlib.Core.Path.{◌≡◌, refl, ap, ◌∙◌}
use mathlib.Core.Bool.{Bool, true, false, ◌&&◌, true≢false}
use mathlib.Core.List.{List, [], ◌∷◌}
use Prim.Native.Nat.{ℕ, zero, suc, ◌+◌, ◌-◌, ◌*◌, ◌/◌, ◌%◌, ◌^◌, ◌≤◌, ◌<◌}
use native.Mathlib.Nat.{pow-suc, pow-zero, mul-div_cancel, div-eq_of_lt, mod-lt, mul-pos}
use native.Mathlib.Omega.{arith}
use native.Mathlib.Decide.{dec_lt}
use borrow.Author.Tests.{lt-ltb, le-ltb, ltb-true, eqb-true, ne_eqb}
use lib.Dec.{eqb, ltb, eqb→eq}
use lib.ListN.{get_or}
use lib.IntN.{ℤ, pos, negsuc}
use Rattle.std.specs.Prelude.{◌<ℤ◌, ◌≤ℤ◌, unsigned_abs}
use Rattle.std.proofs.lemmas.Int.{ints}
use Rattle.fixed.proofs.Table.{below_at}
use Rattle.fixed.proofs.Bools.{and_first, and_rest}
use Rattle.text.specs.Text.{glyph_of, digits_of, trimmed, decimal_text, signed_text}
use Rattle.text.specs.Output.{Puts}
use Rattle.text.specs.declared.Output.{Output}
use Rattle.text.proofs.Laws.{Left, left_more, left_none, puts_then}

-- ---- digits

-- the table has at each place the digit of that number
glyph_at : ℕ → Bool
unfolding glyph_of
glyph_at d = eqb (get_or (48 ∷ 49 ∷ 50 ∷ 51 ∷ 52 ∷ 53 ∷ 54 ∷ 55 ∷ 56 ∷ 57 ∷ 65 ∷ 66 ∷ 67 ∷ 68 ∷ 69 ∷ 70 ∷ []) d 0) (glyph_of d)

pub glyph_is : (d : ℕ) → d < 16 → get_or (48 ∷ 49 ∷ 50 ∷ 51 ∷ 52 ∷ 53 ∷ 54 ∷ 55 ∷ 56 ∷ 57 ∷ 65 ∷ 66 ∷ 67 ∷ 68 ∷ 69 ∷ 70 ∷ []) d 0 ≡ glyph_of d
unfolding glyph_at glyph_of
glyph_is d h = eqb→eq _ _ (below_at 16 glyph_at tt d h)

pub glyph_small : (x base : ℕ) → 1 < base → base ≤ 16 → x % base < 16
glyph_small x base h k = let p = mod-lt x {m = base} (omega arith) in omega arith

-- what the first of k digits counts; 0 where there is none
unfoldable pub power_at : ℕ → ℕ → ℕ
power_at base zero = 0
power_at base (suc k) = base ^ k

pub power_first : (base k : ℕ) {p : ℕ} → 0 < k → p ≡ base ^ (k - 1) → p ≡ power_at base k
unfolding power_at
power_first base zero h e = absurd (omega (arith, h))
power_first base (suc k) h e = e ∙ ap (λ (n : ℕ). base ^ n) (omega arith)

pow_positive : {base : ℕ} (k : ℕ) → 0 < base → 0 < base ^ k
pow_positive {base} zero h = rw pow-zero (omega arith)
pow_positive {base} (suc k) h = rw pow-suc (mul-pos (pow_positive k h) h)

pub power_of : (base k : ℕ) {p : ℕ} → 0 < k → p ≡ power_at base k → p ≡ base ^ (k - 1)
unfolding power_at
power_of base zero h e = absurd (omega (arith, h))
power_of base (suc k) h e = e ∙ ap (λ (n : ℕ). base ^ n) (omega arith)

pub power_positive : (base k : ℕ) {p : ℕ} → p ≡ power_at base k → 1 < base → 0 < k → 0 < p
unfolding power_at
power_positive base zero e b h = absurd (omega (arith, h))
power_positive base (suc k) e b h = rw e (pow_positive k (omega (arith, b)))

pub power_next : (base k : ℕ) {p : ℕ} → p ≡ power_at base k → 1 < base → 0 < k → p / base ≡ power_at base (k - 1)
unfolding power_at
power_next base zero e b h = absurd (omega (arith, h))
power_next base (suc zero) e b h = rw (e, pow-zero) (div-eq_of_lt b)
power_next base (suc (suc k)) e b h = let d : suc (suc k) - 1 ≡ suc k = omega arith in rw (d, e, pow-suc) (mul-div_cancel (base ^ k) (omega (arith, b)))

pub digits_more : (base n k : ℕ) {w : List ℕ} {p₀ q r : Output} {p g : ℕ}
    → Left w p₀ (digits_of base n k) q → 0 < k → p ≡ power_at base k → g ≡ glyph_of (n / p % base) → Puts (g ∷ []) q r
    → Left w p₀ (digits_of base n (k - 1)) r
unfolding digits_of power_at
digits_more base n zero l h e q p = absurd (omega (arith, h))
digits_more base n (suc k) l h e q p = let d : suc k - 1 ≡ k = omega arith in rw d (left_more l (rw (q, e) at p))

pub digits_none : (base n k : ℕ) {w : List ℕ} {p₀ p : Output} → Left w p₀ (digits_of base n k) p → k ≤ 0 → Puts w p₀ p
unfolding digits_of
digits_none base n zero l h = left_none l
digits_none base n (suc k) l h = absurd (omega (arith, h))

-- ---- hex

hex_power : ℕ → Bool
hex_power j = eqb (1 * 2 ^ (4 * j) % 2 ^ 64) (16 ^ j)

pub hex_power_lem : (k : ℕ) → 0 < k → k ≤ 8 → 1 * 2 ^ (4 * (k - 1)) % 2 ^ 64 ≡ 16 ^ (k - 1)
unfolding hex_power
hex_power_lem k h m = eqb→eq _ _ (below_at 8 hex_power tt (k - 1) (omega arith))

-- ---- decimal

-- whether the first of k digits is a zero that is let go
abbrev pub idle : ℕ → ℕ → ℕ → Bool
idle n k p = ltb 1 k && eqb (n / p % 10) 0

pub idle_more : (n k p : ℕ) → idle n k p ≡ true → 0 < k - 1
idle_more n k p e = let h = ltb-true 1 k (and_first (ltb 1 k) (eqb (n / p % 10) 0) e) in omega arith

pub decimal_all : (n : ℕ) → trimmed (digits_of 10 n 20) ≡ decimal_text n
unfolding decimal_text
decimal_all n = refl

pub decimal_power : 10000000000000000000 ≡ power_at 10 20
unfolding power_at
decimal_power = refl

trim_idle : (n k : ℕ) {p : ℕ} → 1 < k → p ≡ power_at 10 k → n / p % 10 ≡ 0 → trimmed (digits_of 10 n (k - 1)) ≡ trimmed (digits_of 10 n k)
unfolding trimmed digits_of power_at glyph_of
trim_idle n zero h e z = absurd (omega (arith, h))
trim_idle n (suc zero) h e z = absurd (omega (arith, h))
trim_idle n (suc (suc k)) h e z = let d : suc (suc k) - 1 ≡ suc k = omega arith in rw (d, ← e, z)

pub trim_more : (n k p : ℕ) {t : List ℕ} → idle n k p ≡ true → p ≡ power_at 10 k → trimmed (digits_of 10 n k) ≡ t → trimmed (digits_of 10 n (k - 1)) ≡ t
trim_more n k p i e q =
    trim_idle n k (ltb-true 1 k (and_first (ltb 1 k) (eqb (n / p % 10) 0) i)) e (eqb-true (n / p % 10) 0 (and_rest (ltb 1 k) (eqb (n / p % 10) 0) i)) ∙ q

-- another digit, or the last, stays
other_glyph : (d : ℕ) → 0 < d → eqb (glyph_of d) 48 ≡ false
unfolding glyph_of
other_glyph d h = by (dec_lt d 10)
  where
    by : Dec (d < 10) → eqb (glyph_of d) 48 ≡ false
    by (yes p) = rw (lt-ltb d 10 p) (ne_eqb (48 + d) 48 (λ e. omega (arith, e)))
    by (no p) = rw (le-ltb d 10 (omega arith)) (ne_eqb (55 + d) 48 (λ e. omega (arith, e)))

trim_done : (n k : ℕ) {p : ℕ} → 0 < k → p ≡ power_at 10 k → idle n k p ≡ false → trimmed (digits_of 10 n k) ≡ digits_of 10 n k
unfolding trimmed digits_of power_at
trim_done n zero h e z = absurd (omega (arith, h))
trim_done n (suc zero) h e z = refl
trim_done n (suc (suc k)) h e z = rw (stays (n / 10 ^ suc k % 10) (rw e at z))
  where
    stays : (d : ℕ) → (ltb 1 (suc (suc k)) && eqb d 0) ≡ false → eqb (glyph_of d) 48 ≡ false
    stays zero q = absurd (true≢false (rw (lt-ltb 1 (suc (suc k)) (omega arith)) at q))
    stays (suc d) q = other_glyph (suc d) (omega arith)

pub decimal_puts : (n k p : ℕ) {q r : Output} → 0 < k → p ≡ power_at 10 k → idle n k p ≡ false
    → trimmed (digits_of 10 n k) ≡ decimal_text n → Puts (digits_of 10 n k) q r → Puts (decimal_text n) q r
decimal_puts n k p h e i q r = rw (← q, trim_done n k h e i) r

-- ---- signed

pub minus_puts : (x : ℤ) {m : ℕ} {p q r : Output} → x <ℤ pos 0 → m ≡ unsigned_abs x → Puts (45 ∷ []) p q → Puts (decimal_text m) q r → Puts (signed_text x) p r
unfolding signed_text
minus_puts (pos n) h e k l = absurd (omega (arith, ints))
minus_puts (negsuc n) h e k l = puts_then k (rw e at l)

pub plus_puts : (x : ℤ) {m : ℕ} {p q : Output} → pos 0 ≤ℤ x → m ≡ unsigned_abs x → Puts (decimal_text m) p q → Puts (signed_text x) p q
unfolding signed_text
plus_puts (pos n) h e k = rw e at k
plus_puts (negsuc n) h e k = absurd (omega (arith, ints))
