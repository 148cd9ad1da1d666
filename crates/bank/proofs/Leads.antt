-- Where aliases lead: to a lower entry each, so to a sound. Assumes nothing.
use mathlib.Core.Path.{◌≡◌, refl, sym, ◌∙◌}
use mathlib.Core.Bool.{Bool, true, false, cond, ◌&&◌, ◌||◌}
use mathlib.Core.List.{List}
use Prim.Native.Nat.{ℕ, zero, suc, ◌+◌, ◌*◌, ◌%◌, ◌≤◌, ◌<◌}
use native.Mathlib.Omega.{arith}
use borrow.Author.Tests.{leb-true, ltb-true, eqb-true, ne_eqb, eq-eqb}
use lib.Dec.{eqb, leb, ltb}
use lib.ListN.{length}
use Rattle.fixed.proofs.Bools.{and_first, and_rest}
use Rattle.bank.specs.declared.Entry.{Entry}
use Rattle.bank.specs.Bank.{count_of, place_of, entry_at, is_sound, is_alias, is_entry, is_good, leads_to, sound_of}
use Rattle.bank.proofs.Laws.{entry_inside, good_is, good_header}

-- entry n of kind 1 is an alias, of any other kind a sound
alias_is : (end size n : ℕ) (e : Entry) → is_entry end size n e ≡ true → e.kind ≡ 1 → e.offset < n
unfolding is_entry is_sound is_alias
alias_is end size n e t k = ltb-true _ _ (and_first (ltb e.offset n) _ (rw k at t))

sound_is : (end size n : ℕ) (e : Entry) → is_entry end size n e ≡ true → eqb e.kind 1 ≡ false → is_sound end size e ≡ true
unfolding is_entry is_alias
sound_is end size n e t k = first (is_sound end size e) (rw k at t)
  where
    first : (a : Bool) → (a || false) ≡ true → a ≡ true
    first true u = refl
    first false u = u

pub leads_here : (entry : ℕ → Entry) (n : ℕ) → eqb (entry n).kind 1 ≡ false → n ≡ sound_of entry n
unfolding leads_to
leads_here entry zero t = refl
leads_here entry (suc n) t = rw t

module _ (entry : ℕ → Entry) (end size count : ℕ) (good : (n : ℕ) → n < count → is_entry end size n (entry n) ≡ true) where
  falls : (n : ℕ) → n < count → eqb (entry n).kind 1 ≡ true → (entry n).offset < n
  falls n h t = alias_is end size n (entry n) (good n h) (eqb-true _ _ t)

  -- entry 0 is a sound
  stays : (k : ℕ) → 0 < count → leads_to entry k 0 ≡ 0
  unfolding leads_to
  stays zero h = refl
  stays (suc k) h = by (eqb (entry 0).kind 1) refl
    where
      by : (b : Bool) → eqb (entry 0).kind 1 ≡ b → cond b (leads_to entry k (entry 0).offset) 0 ≡ 0
      by true t = let f = falls 0 h t in absurd (omega arith)
      by false t = refl

  -- from entry n on, any number of steps from n on does the same
  pub enough : (k j n : ℕ) → n ≤ k → n ≤ j → n < count → leads_to entry k n ≡ leads_to entry j n
  unfolding leads_to
  enough zero j n p q h = let z : n ≡ 0 = omega arith in rw z (sym (stays j (omega arith)))
  enough (suc k) zero n p q h = let z : n ≡ 0 = omega arith in rw z (stays (suc k) (omega arith))
  enough (suc k) (suc j) n p q h = by (eqb (entry n).kind 1) refl (λ f. enough k j (entry n).offset (omega arith) (omega arith) (omega arith))
    where
      by : (b : Bool) → eqb (entry n).kind 1 ≡ b → ((entry n).offset < n → leads_to entry k (entry n).offset ≡ leads_to entry j (entry n).offset)
          → cond b (leads_to entry k (entry n).offset) n ≡ cond b (leads_to entry j (entry n).offset) n
      by true t r = r (falls n h t)
      by false t r = refl

  -- an alias leads where its entry leads
  pub leads_on : (n : ℕ) → n < count → eqb (entry n).kind 1 ≡ true → sound_of entry (entry n).offset ≡ sound_of entry n
  unfolding leads_to
  leads_on zero h t = let f = falls 0 h t in absurd (omega arith)
  leads_on (suc n) h t =
      let f = falls (suc n) h t in
      enough (entry (suc n)).offset n (entry (suc n)).offset (omega arith) (omega arith) (omega arith) ∙ rw t

  -- other entries that are the same below the count lead the same way
  pub leads_same : (other : ℕ → Entry) → ((n : ℕ) → n < count → other n ≡ entry n) → (k n : ℕ) → n < count → leads_to other k n ≡ leads_to entry k n
  unfolding leads_to
  leads_same other s zero n h = refl
  leads_same other s (suc k) n h = rw (s n h) (by (eqb (entry n).kind 1) refl (λ f. leads_same other s k (entry n).offset (omega arith)))
    where
      by : (b : Bool) → eqb (entry n).kind 1 ≡ b → ((entry n).offset < n → leads_to other k (entry n).offset ≡ leads_to entry k (entry n).offset)
          → cond b (leads_to other k (entry n).offset) n ≡ cond b (leads_to entry k (entry n).offset) n
      by true t r = r (falls n h t)
      by false t r = refl

  pub record Sound (n : ℕ) : Type 0 where
    pub below : n < count
    pub is : is_sound end size (entry n) ≡ true

  here : (n : ℕ) → n < count → eqb (entry n).kind 1 ≡ false → Sound n
  here n h t = record { below = h; is = sound_is end size n (entry n) (good n h) t }

  -- what it leads to is a sound
  pub leads_sound : (k n : ℕ) → n ≤ k → n < count → Sound (leads_to entry k n)
  unfolding leads_to
  leads_sound zero n p h = by (eqb (entry n).kind 1) refl
    where
      by : (b : Bool) → eqb (entry n).kind 1 ≡ b → Sound n
      by true t = let f = falls n h t in absurd (omega arith)
      by false t = here n h t
  leads_sound (suc k) n p h = by (eqb (entry n).kind 1) refl (λ f. leads_sound k (entry n).offset (omega arith) (omega arith))
    where
      by : (b : Bool) → eqb (entry n).kind 1 ≡ b → ((entry n).offset < n → Sound (leads_to entry k (entry n).offset)) → Sound (cond b (leads_to entry k (entry n).offset) n)
      by true t r = r (falls n h t)
      by false t r = here n h t

-- ---- a sound's bytes

pub record Inside (end size : ℕ) (e : Entry) : Type 0 where
  pub start : end ≤ e.offset
  pub stop : e.offset + e.count * 16 ≤ size

pub sound_inside : (end size : ℕ) (e : Entry) → is_sound end size e ≡ true → Inside end size e
unfolding is_sound
sound_inside end size e t =
    let a = and_rest (eqb e.kind 0) (leb end e.offset && (leb (e.offset + e.count * 16) size && (eqb (e.offset % 16) 0 && leb 1 e.count))) t in
    let b = and_rest (leb end e.offset) (leb (e.offset + e.count * 16) size && (eqb (e.offset % 16) 0 && leb 1 e.count)) a in
    record {
      start = leb-true _ _ (and_first (leb end e.offset) _ a);
      stop = leb-true _ _ (and_first (leb (e.offset + e.count * 16) size) _ b);
    }

-- ---- in a good bank

module _ (bank : List ℕ) (g : is_good bank ≡ true) (n : ℕ) (h : n < count_of bank) where
  abbrev end : ℕ
  end = place_of (count_of bank)

  entries : (k : ℕ) → k < count_of bank → is_entry end (length bank) k (entry_at bank k) ≡ true
  entries = (good_is bank g).entries

  pub entry_stands : place_of n + 10 ≤ length bank
  entry_stands = entry_inside (good_header bank g) h

  -- e is the code's entry n
  module _ {e : Entry} (q : e ≡ entry_at bank n) where
    pub sound_here : (e.kind ≡ 1 → ⊥) → n ≡ sound_of (entry_at bank) n
    sound_here k = leads_here (entry_at bank) n (rw (← q) (ne_eqb e.kind 1 k))

    pub alias_falls : e.kind ≡ 1 → e.offset < n
    alias_falls k = rw q (falls (entry_at bank) end (length bank) (count_of bank) entries n h (rw (← q) (eq-eqb e.kind 1 k)))

    pub alias_leads : {r : ℕ} → e.kind ≡ 1 → r ≡ sound_of (entry_at bank) e.offset → r ≡ sound_of (entry_at bank) n
    alias_leads k f =
        f ∙ rw q (leads_on (entry_at bank) end (length bank) (count_of bank) entries n h (rw (← q) (eq-eqb e.kind 1 k)))

  abbrev sound : ℕ
  sound = sound_of (entry_at bank) n

  is_sound_lem : Sound (entry_at bank) end (length bank) (count_of bank) entries sound
  is_sound_lem = leads_sound (entry_at bank) end (length bank) (count_of bank) entries n n (omega arith) h

  pub sound_below : sound < count_of bank
  sound_below = is_sound_lem.below

  pub sound_stands : place_of sound + 10 ≤ length bank
  sound_stands = entry_inside (good_header bank g) sound_below

  pub sound_lies : Inside end (length bank) (entry_at bank sound)
  sound_lies = sound_inside end (length bank) (entry_at bank sound) is_sound_lem.is
