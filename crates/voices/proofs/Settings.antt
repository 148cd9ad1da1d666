-- What the registers say of a voice, from what the code's parts give. Assumes nothing.
use mathlib.Core.Path.{◌≡◌, refl, sym, ap, subst, ◌∙◌}
use mathlib.Core.Bool.{Bool, true, false, ◌&&◌}
use mathlib.Core.List.{List}
use Prim.Native.Nat.{ℕ, ◌+◌, ◌-◌, ◌*◌, ◌/◌, ◌%◌, ◌^◌, ◌<◌}
use native.Mathlib.Omega.{arith}
use native.Mathlib.Decide.{dec_lt}
use lib.Dec.{eqb, ltb}
use lib.Pow.{shr-shr}
use borrow.Author.Tests.{lt-ltb}
use Rattle.fixed.specs.Bits.{bit, field}
use Rattle.registers.specs.Map.{of_voice, Flags}
use Rattle.voice.specs.declared.Settings.{Settings}
use Rattle.voices.specs.Voices.{flagged_of, settings_of, Modulated}

pub flagged_as : (regs : List ℕ) (n : ℕ) (m o : Bool) {p l h : ℕ} → p ≡ of_voice regs n 4 → l ≡ of_voice regs n 8 → h ≡ of_voice regs n 0xA
    → record { pitch = p; low = l; high = h; modulated = m; noise = o } ≡ flagged_of regs n m o
unfolding flagged_of
flagged_as regs n m o a b c = rw (a, b, c)

-- the lowest bit cleared

clear_same : (x : ℕ) → bit 0 (x / 2 * 2) ≡ (bit 0 x && false)
clear_same x = let e : x / 2 * 2 / 1 % 2 ≡ 0 = omega arith in rw (e, off (bit 0 x))
  where
    off : (b : Bool) → (b && false) ≡ false
    off true = refl
    off false = refl

clear_above : (x k : ℕ) → field (1 + k) 1 (x / 2 * 2) ≡ field (1 + k) 1 x
clear_above x k =
    let e : x / 2 * 2 / 2 ≡ x / 2 = omega arith in
    ap (λ (y : ℕ). y % 2) (sym (shr-shr (x / 2 * 2) 1 k) ∙ ap (λ (y : ℕ). y / 2 ^ k) e ∙ shr-shr x 1 k)

clear_low : (x n : ℕ) → bit n (x / 2 * 2) ≡ (bit n x && ltb 0 n)
clear_low x n = by (dec_lt 0 n)
  where
    on : (b : Bool) → (b && true) ≡ b
    on true = refl
    on false = refl

    by : Dec (0 < n) → bit n (x / 2 * 2) ≡ (bit n x && ltb 0 n)
    by (yes h) =
        let p : n ≡ 1 + (n - 1) = omega arith in
        rw (lt-ltb 0 n h, on (bit n x)) (ap (λ (k : ℕ). bit k (x / 2 * 2)) p ∙ ap (λ (y : ℕ). eqb y 1) (clear_above x (n - 1)) ∙ ap (λ (k : ℕ). bit k x) (sym p))
    by (no h) = let p : 0 ≡ n = omega arith in subst (λ (k : ℕ). bit k (x / 2 * 2) ≡ (bit k x && ltb 0 k)) p (clear_same x)

pub modulated_as : (regs : List ℕ) {x : ℕ} → Flags regs 0x190 x → Modulated regs (x / 2 * 2)
modulated_as regs {x} f = record { each = λ n h. clear_low x n ∙ ap (λ (b : Bool). b && ltb 0 n) (f.each n h) }

pub settings_by_as : (regs : List ℕ) (n : ℕ) {pmon non : ℕ} {m o : Bool} {s : Settings} → n < 24 → Modulated regs pmon → Flags regs 0x194 non
    → m ≡ bit n pmon → o ≡ bit n non → s ≡ flagged_of regs n m o → s ≡ settings_of regs n
unfolding settings_of flagged_of
settings_by_as regs n k f g p q e = rw (e, p, q, f.each n k, g.each n k)
