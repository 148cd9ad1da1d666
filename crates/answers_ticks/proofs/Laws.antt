-- Laws of the pair that a tick makes, and of the line that answers it. Assumes nothing.
use mathlib.Core.Path.{◌≡◌, refl, sym, ◌∙◌}
use mathlib.Core.Bool.{Bool, true, false, false≢true, true≢false}
use mathlib.Core.List.{List, ◌++◌}
use Prim.Native.Nat.{ℕ}
use lib.IntN.{ℤ}
use mir.Syntax.{w16}
use mir.Val.{SFits, to_z, of_z}
use mir.Facts.{to_z-of_z}
use borrow.Author.Tests.{eq-eqb}
use lib.Ieee.{Float, nan, inf, fin, binary32, is_nan, to_bits, eq}
use Rattle.text.specs.Text.{signed_text}
use Rattle.text.specs.Output.{Puts}
use Rattle.text.specs.declared.Output.{Output}
use Rattle.text.proofs.Laws.{puts_then}
use Rattle.answers.specs.Answer.{hex_part, signed_part, pair_part, bits_of}

-- ---- a line by its parts

pub line_puts : {line s t u : List ℕ} {p q r o : Output} → line ≡ s ++ t ++ u → Puts s p q → Puts t q r → Puts u r o → Puts line p o
line_puts e h k l = rw e (puts_then (puts_then h k) l)

-- ---- a signed number as a call hands it on

pub signed_kept : (x : ℤ) {p q : Output} → SFits w16 x → Puts (signed_text (to_z w16 (of_z w16 x))) p q → Puts (signed_text x) p q
signed_kept x f p = rw (to_z-of_z f) at p

pub around_pair : (x y : ℤ) {s t : List ℕ} {p q r o : Output} → SFits w16 x → SFits w16 y → Puts s p q
    → Puts (signed_part (to_z w16 (of_z w16 x)) ++ signed_part (to_z w16 (of_z w16 y))) q r → Puts t r o → Puts (s ++ pair_part x y ++ t) p o
unfolding pair_part
around_pair x y f g h k l = puts_then (puts_then h (rw (to_z-of_z f, to_z-of_z g) at k)) l

-- ---- a float that is a number

equal_self : (x : Float) → is_nan x ≡ false → eq x x ≡ true
unfolding eq is_nan
equal_self nan e = absurd (true≢false e)
equal_self (inf true) e = refl
equal_self (inf false) e = refl
equal_self (fin true m d) e = rw (eq-eqb _ _ refl)
equal_self (fin false m d) e = rw (eq-eqb _ _ refl)

pub number_bits : (x : Float) {b : Bool} → b ≡ is_nan x → b ≡ false → to_bits binary32 x ≡ bits_of x
unfolding bits_of
number_bits x e h = rw (equal_self x (sym e ∙ h))

unequal_self : (x : Float) → is_nan x ≡ true → eq x x ≡ false
unfolding eq is_nan
unequal_self nan e = refl
unequal_self (inf s) e = absurd (false≢true e)
unequal_self (fin s m d) e = absurd (false≢true e)

pub no_bits : (x : Float) {b : Bool} → b ≡ is_nan x → b ≡ true → 0 ≡ bits_of x
unfolding bits_of
no_bits x e h = rw (unequal_self x (sym e ∙ h))

pub float_puts : (x : Float) {n : ℕ} {p q : Output} → n ≡ bits_of x → Puts (hex_part n 8) p q → Puts (hex_part (bits_of x) 8) p q
float_puts x e p = rw e at p
