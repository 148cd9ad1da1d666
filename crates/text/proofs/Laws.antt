-- Laws of text put into lent bytes. Assumes nothing.
use mathlib.Core.Path.{◌≡◌, refl, sym, ap, ◌∙◌}
use mathlib.Core.Bool.{Bool, true, false, cond}
use mathlib.Core.List.{List, [], ◌∷◌, ◌++◌}
use Prim.Native.Nat.{ℕ, suc, ◌+◌, ◌≤◌, ◌<◌}
use native.Mathlib.Numerals.{add-one}
use native.Mathlib.Nat.{add-suc, suc-add, add-zero}
use native.Mathlib.Omega.{arith}
use borrow.Author.Tests.{lt-ltb, le-ltb}
use lib.ListN.{length, take, drop, get_or, set, length-set}
use lib.Seq.{drop-cons, drop-length, sets, sets-eq}
use Rattle.text.specs.Text.{Page, page, put_of, printed_of, Prints}
use Rattle.text.specs.Output.{Puts}
use Rattle.text.specs.declared.Output.{Output}

-- ---- one byte

pub byte_put : (out : List ℕ) (place b : ℕ) → place < length out → Prints (b ∷ []) out place (set out place b) (place + 1)
unfolding put_of
byte_put out place b h = record { is = rw (lt-ltb place (length out) h) }

pub byte_dropped : (out : List ℕ) (place b : ℕ) → length out ≤ place → Prints (b ∷ []) out place out place
unfolding put_of
byte_dropped out place b h = record { is = rw (le-ltb place (length out) h) }

-- ---- one text after another

printed_append : (s t : List ℕ) (p : Page) → printed_of p (s ++ t) ≡ printed_of (printed_of p s) t
printed_append [] t p = refl
printed_append (b ∷ s) t p = printed_append s t (put_of p b)

pub prints_none : (o : List ℕ) (a : ℕ) → Prints [] o a o a
prints_none o a = record { is = refl }

pub prints_then : {s t o o' o'' : List ℕ} {a a' a'' : ℕ} → Prints s o a o' a' → Prints t o' a' o'' a'' → Prints (s ++ t) o a o'' a''
prints_then {s} {t} {o} {o'} {o''} {a} p q = record { is = printed_append s t (page o a) ∙ ap (λ (x : Page). printed_of x t) p.is ∙ q.is }

-- ---- text put into an output

pub puts_none : (p : Output) → Puts [] p p
puts_none p = record { same = refl; prints = prints_none p.bytes.now p.place }

pub puts_then : {s t : List ℕ} {p q r : Output} → Puts s p q → Puts t q r → Puts (s ++ t) p r
puts_then h k = record { same = k.same ∙ h.same; prints = prints_then h.prints k.prints }

pub puts_byte : {b : ℕ} {t : List ℕ} {p q r : Output} → Puts (b ∷ []) p q → Puts t q r → Puts (b ∷ t) p r
puts_byte h k = puts_then h k

-- one text or another, by a test
pub puts_set : (b : Bool) (s t : List ℕ) {p q : Output} → b ≡ true → Puts s p q → Puts (cond b s t) p q
puts_set b s t e h = rw e h

pub puts_clear : (b : Bool) (s t : List ℕ) {p q : Output} → b ≡ false → Puts t p q → Puts (cond b s t) p q
puts_clear b s t e h = rw e h

-- ---- what is left of a text while it is put

pub record Left (whole : List ℕ) (p₀ : Output) (rest : List ℕ) (p : Output) : Type 0 where
  pub same : p.bytes.ghost_name ≡ p₀.bytes.ghost_name
  pub is : printed_of (page p.bytes.now p.place) rest ≡ printed_of (page p₀.bytes.now p₀.place) whole

pub left_all : (t : List ℕ) (p : Output) → Left t p t p
left_all t p = record { same = refl; is = refl }

pub left_then : {w s rest : List ℕ} {p₀ p q : Output} → Left w p₀ (s ++ rest) p → Puts s p q → Left w p₀ rest q
left_then {s = s} {rest = rest} {p = p} l h =
    record {
      same = h.same ∙ l.same;
      is = ap (λ (x : Page). printed_of x rest) (sym h.prints.is) ∙ sym (printed_append s rest (page p.bytes.now p.place)) ∙ l.is;
    }

pub left_more : {w rest : List ℕ} {p₀ p q : Output} {b : ℕ} → Left w p₀ (b ∷ rest) p → Puts (b ∷ []) p q → Left w p₀ rest q
left_more l h = left_then l h

pub left_none : {w : List ℕ} {p₀ p : Output} → Left w p₀ [] p → Puts w p₀ p
left_none l = record { same = l.same; prints = record { is = sym l.is } }

-- ---- a text that is lent

pub text_all : (t : List ℕ) (p : Output) → Left t p (drop 0 t) p
text_all t p = left_all t p

pub text_more : (t : List ℕ) (i : ℕ) {w : List ℕ} {p₀ p q : Output}
    → Left w p₀ (drop i t) p → i < length t → Puts (get_or t i 0 ∷ []) p q → Left w p₀ (drop (i + 1) t) q
text_more t i {w} {p₀} {p} l h k = rw add-one (left_more (rw (drop-cons t i 0 h) at l) k)

pub text_none : (t : List ℕ) (i : ℕ) {w : List ℕ} {p₀ p : Output} → Left w p₀ (drop i t) p → i ≤ length t → length t ≤ i → Puts w p₀ p
text_none t i {w} {p₀} {p} l h k =
    let e : i ≡ length t = omega arith in
    left_none (rw drop-length at (rw e at l))

-- ---- where there is room, all of it stands there

pub placed : (t o : List ℕ) (a : ℕ) → a + length t ≤ length o → printed_of (page o a) t ≡ page (sets o a t) (a + length t)
unfolding put_of
placed [] o a h = ap (page o) (sym (add-zero a))
placed (b ∷ t) o a h =
    rw (lt-ltb a (length o) (omega arith), add-one)
    (placed t (set o a b) (suc a) (rw length-set (omega (arith, h))) ∙ ap (page (sets (set o a b) (suc a) t)) (suc-add a (length t) ∙ sym (add-suc a (length t))))

-- the bytes before the place and after the text are as they were
pub prints_room : (t o : List ℕ) {o' : List ℕ} (a : ℕ) {a' : ℕ} → a + length t ≤ length o → Prints t o a o' a'
    → (o' ≡ take a o ++ t ++ drop (a + length t) o) × (a' ≡ a + length t)
prints_room t o a h p =
    let e = sym p.is ∙ placed t o a h in
    (ap (λ (x : Page). x.bytes) e ∙ sets-eq t o a h, ap (λ (x : Page). x.place) e)
