-- A block that lies at a multiple of 16 and is marked whole: its eight reads at once. Assumes nothing.
use mathlib.Core.Path.{◌≡◌, refl, sym, ap, ap₂, ◌∙◌}
use mathlib.Core.Bool.{Bool, true, false, not, ◌||◌, ◌&&◌, and-false, or-true, or-false}
use mathlib.Core.List.{List, [], ◌∷◌, ◌++◌, append_assoc}
use Prim.Native.Nat.{ℕ, zero, suc, ◌+◌, ◌-◌, ◌*◌, ◌/◌, ◌%◌, ◌≤◌, ◌<◌}
use native.Mathlib.Decide.{ℕ_discrete}
use native.Mathlib.Numerals.{add-one}
use native.Mathlib.Omega.{arith}
use lib.Dec.{eqb, eqb→eq}
use lib.ListN.{length, take, get_or}
use lib.Seq.{take-suc, take_all}
use borrow.Author.Tests.{eq-eqb, ne_eqb}
use Rattle.fixed.specs.Bits.{bit, field}
use Rattle.fixed.proofs.Table.{below_at}
use Rattle.soundram.specs.declared.ByteAddress.{ByteAddress}
use Rattle.soundram.specs.declared.Reader.{Reader}
use Rattle.soundram.specs.declared.Watch.{Watch}
use Rattle.soundram.specs.Address.{halfword_of, forward_of, Lent}
use Rattle.soundram.specs.Memory.{half, marked}
use Rattle.soundram.specs.Program.{mem_of, Does, get, bytes_from}
use Rattle.soundram.proofs.Addresses.{forward_small}
use Rattle.soundram.proofs.Programs.{does_done, does_give, does_bind, does_get}

-- h is one of the n numbers from b on
module _ (h b : ℕ) where
  inside : ℕ → Bool
  inside zero = false
  inside (suc n) = inside n || eqb h (b + n)

  inside_yes : (n j : ℕ) → j < n → h ≡ b + j → inside n ≡ true
  unfolding inside
  inside_yes zero j p e = absurd (none p)
    where
      none : j < zero → ⊥
      none p = omega arith
  inside_yes (suc n) j p e =
      elim (ℕ_discrete j n) [
        | yes q ↦ rw (eq-eqb h (b + n) (omega arith)) (or-true (inside n))
        | no q ↦ rw (inside_yes n j (omega arith) e)
      ]

  inside_no : (n : ℕ) → ((j : ℕ) → j < n → h ≡ b + j → ⊥) → inside n ≡ false
  unfolding inside
  inside_no zero f = refl
  inside_no (suc n) f = rw (inside_no n (λ j p. f j (omega arith)), ne_eqb h (b + n) (f n (omega arith)))

inside_eight : (h a : ℕ) → a % 16 ≡ 0 → inside h (a / 2) 8 ≡ eqb (h / 8) (a / 16)
inside_eight h a m =
    elim (ℕ_discrete (h / 8) (a / 16)) [
      | yes e ↦ inside_yes h (a / 2) 8 (h - a / 2) (omega arith) (omega arith) ∙ sym (eq-eqb (h / 8) (a / 16) e)
      | no e ↦ inside_no h (a / 2) 8 (λ j p q. e (omega arith)) ∙ sym (ne_eqb (h / 8) (a / 16) e)
    ]

latch_more : (l m p q : Bool) → ((l || (m && p)) || (m && q)) ≡ (l || (m && (p || q)))
latch_more true m p q = refl
latch_more false true p q = refl
latch_more false false p q = refl

all_set : (k : ℕ) → k < 8 → bit k 255 ≡ true
all_set k h = eq-eqb (field k 1 255) 1 (eqb→eq _ _ (below_at 8 (λ (j : ℕ). eqb (field j 1 255) 1) tt k h))

take_two : (bs : List ℕ) (k : ℕ) → k + 1 < length bs → take (suc (suc k)) bs ≡ take k bs ++ get_or bs k 0 ∷ get_or bs (k + 1) 0 ∷ []
take_two bs k h =
    rw (add-one k)
    (take-suc bs (suc k) 0 (omega arith) ∙ ap (λ (l : List ℕ). l ++ get_or bs (suc k) 0 ∷ []) (take-suc bs k 0 (omega arith)) ∙ append_assoc (take k bs) _ _)

low : (x y : ℕ) → x < 256 → (x + y * 256) % 256 ≡ x
low x y h = omega arith

high : (x y : ℕ) → x < 256 → (x + y * 256) / 256 ≡ y
high x y h = omega arith

-- what the block's reads leave of the watch
abbrev seen : Watch → Bool → Watch
seen w b = record { armed = w.armed; halfword = w.halfword; latch = w.latch || (w.armed && b); doubt = w.doubt }

unseen : (w : Watch) → seen w false ≡ w
unseen w = ap (λ (b : Bool). record { armed = w.armed; halfword = w.halfword; latch = b; doubt = w.doubt }) (ap (λ (b : Bool). w.latch || b) (and-false w.armed) ∙ or-false w.latch)

module _ (who : Reader) (size : ℕ) (ram marks : List ℕ) (a : ByteAddress) (bs : List ℕ) (w : Watch)
    (l : Lent size ram marks) (below : a.0 < size) (even : a.0 % 16 ≡ 0) (full : get_or marks (a.0 / 16) 0 ≡ 255) (len : length bs ≡ 16)
    (same : (k : ℕ) → k < 16 → (get_or bs k 0 ≡ get_or ram (a.0 + k) 0) × (get_or bs k 0 < 256)) where
  marked_at : (n : ℕ) → n < 8 → marked marks ((a.0 + n * 2) / 2) ≡ true
  unfolding marked
  marked_at n h =
      let e : (a.0 + n * 2) / 2 / 8 ≡ a.0 / 16 = omega arith in
      let m : (a.0 + n * 2) / 2 % 8 ≡ n = omega arith in
      rw (e, m, full) (all_set n h)

  half_at_lem : (n : ℕ) → n < 8 → half ram ((a.0 + n * 2) / 2) ≡ get_or bs (n * 2) 0 + get_or bs (n * 2 + 1) 0 * 256
  unfolding half
  half_at_lem n h =
      let e : (a.0 + n * 2) / 2 * 2 ≡ a.0 + n * 2 = omega arith in
      let f : a.0 + n * 2 + 1 ≡ a.0 + (n * 2 + 1) = omega arith in
      rw (e, f, (same (n * 2) (omega arith)).0, (same (n * 2 + 1) (omega arith)).0)

  read_at : (n : ℕ) (p : Bool) → n < 8
      → Does (get who true (halfword_of (forward_of size a (n * 2)))) (mem_of ram marks (seen w p)) (get_or bs (n * 2) 0 + get_or bs (n * 2 + 1) 0 * 256)
      (mem_of ram marks (seen w (p || eqb w.halfword (a.0 / 2 + n))))
  read_at n p h =
      let e : (a.0 + n * 2) / 2 ≡ a.0 / 2 + n = omega arith in
      rw (← forward_small size a (n * 2) (omega (arith, l.sized.sixteens)))
      (does_get ram marks who true true _ _ _ _ (sym (half_at_lem n h)) (sym (marked_at n h))
      (ap₂ (λ (b d : Bool). record { armed = w.armed; halfword = w.halfword; latch = b; doubt = d })
      (sym (latch_more w.latch w.armed p _) ∙ ap (λ (k : ℕ). (w.latch || (w.armed && p)) || (w.armed && eqb w.halfword k)) (sym e))
      (sym (or-false w.doubt))))

  reads : (n : ℕ) → n ≤ 8 → Does (bytes_from who size a n) (mem_of ram marks w) (take (n * 2) bs) (mem_of ram marks (seen w (inside w.halfword (a.0 / 2) n)))
  unfolding bytes_from inside
  reads zero h = rw (unseen w) (does_done [] _)
  reads (suc n) h =
      let f : suc n * 2 ≡ suc (suc (n * 2)) = omega arith in
      let x = (same (n * 2) (omega arith)).1 in
      rw (f, take_two bs (n * 2) (omega arith))
      (does_bind _ (reads n (omega arith)) (does_bind _ (read_at n _ (omega arith)) (does_give _ (sym (ap₂ (λ (u v : ℕ). take (n * 2) bs ++ u ∷ v ∷ []) (low _ _ x) (high _ _ x))))))

  -- x is the watch as the call has it
  pub whole_does : {x : Watch}
      → x ≡ record { armed = w.armed; halfword = w.halfword; latch = w.latch || (w.armed && eqb (w.halfword / 8) (a.0 / 16)); doubt = w.doubt || not true }
      → Does (bytes_from who size a 8) (mem_of ram marks w) bs (mem_of ram marks x)
  whole_does e = rw (e, or-false w.doubt, ← inside_eight w.halfword a.0 even, ← take_all 16 bs (omega arith)) (reads 8 (omega arith))
