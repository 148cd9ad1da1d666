-- What the code reads and tests of a bank, as the definitions have it; and what is known of a good bank. Assumes nothing.
use mathlib.Core.Path.{◌≡◌, refl, sym, ap, ◌∙◌}
use mathlib.Core.Bool.{Bool, true, false, cond, ◌&&◌, ◌||◌, false≢true}
use mathlib.Core.List.{List}
use Prim.Native.Nat.{ℕ, zero, suc, ◌+◌, ◌*◌, ◌≤◌, ◌<◌}
use native.Mathlib.Nat.{le_trans}
use native.Mathlib.Numerals.{add-one}
use native.Mathlib.Decide.{dec_lt}
use native.Mathlib.Omega.{arith}
use borrow.Author.Tests.{leb-true, le-leb, lt-leb, lt-ltb, le-ltb}
use lib.Dec.{eqb, leb}
use lib.ListN.{length}
use Rattle.fixed.proofs.Bools.{and_first, and_rest}
use Rattle.little_endian.specs.Bytes.{half_at, word_at}
use Rattle.bank.specs.declared.Entry.{Entry}
use Rattle.std.specs.Prelude.{Ok, Err}
use Rattle.bank.specs.declared.Damage.TheVariants.{InHeader, AtEntry}
use Rattle.bank.specs.declared.Refusal.TheVariants.{Damaged, NoEntry}
use Rattle.bank.specs.Bank.{count_of, place_of, entry_at, is_header, is_sound, is_alias, is_entry, Checked, is_entry_at, earlier, damage_below, damage_of, is_nowhere, is_good, fields_of}

-- ---- the header

pub record Header (bank : List ℕ) : Type 0 where
  pub two : 2 ≤ length bank
  pub most : count_of bank ≤ 1024
  pub inside : place_of (count_of bank) ≤ length bank

pub header_is : (bank : List ℕ) → is_header bank ≡ true → Header bank
unfolding is_header
header_is bank t =
    let r = and_rest (leb 2 (length bank)) (leb (count_of bank) 1024 && leb (place_of (count_of bank)) (length bank)) t in
    record {
      two = leb-true _ _ (and_first (leb 2 (length bank)) _ t);
      most = leb-true _ _ (and_first (leb (count_of bank) 1024) _ r);
      inside = leb-true _ _ (and_rest (leb (count_of bank) 1024) _ r);
    }

pub header_two : (bank : List ℕ) → is_header bank ≡ true → 2 ≤ length bank
header_two bank t = (header_is bank t).two

pub is_header_lem : (bank : List ℕ) → Header bank → is_header bank ≡ true
unfolding is_header
is_header_lem bank h = rw (le-leb 2 _ h.two, le-leb _ _ h.most, le-leb _ _ h.inside)

pub header_short : (bank : List ℕ) → length bank < 2 → false ≡ is_header bank
unfolding is_header
header_short bank h = rw (lt-leb 2 (length bank) h)

pub header_as : (bank : List ℕ) {n e : ℕ} → 2 ≤ length bank → n ≡ half_at bank 0 → e ≡ place_of n → (leb n 1024 && leb e (length bank)) ≡ is_header bank
unfolding is_header count_of
header_as bank h en ee = rw (le-leb 2 _ h, ee, en)

pub count_as : (bank : List ℕ) {n : ℕ} → n ≡ half_at bank 0 → n ≡ count_of bank
unfolding count_of
count_as bank e = e

-- ---- entries

pub entry_as : (bank : List ℕ) (n : ℕ) {k o c : ℕ} → k ≡ half_at bank (place_of n) → o ≡ word_at bank (place_of n + 2) → c ≡ word_at bank (place_of n + 6)
    → record { kind = k; offset = o; count = c } ≡ entry_at bank n
unfolding entry_at
entry_as bank n ek eo ec = rw (ek, eo, ec)

pub entry_tested : (end size n : ℕ) (e : Entry) {a b : Bool} → a ≡ is_sound end size e → b ≡ is_alias n e → (a || b) ≡ is_entry end size n e
unfolding is_entry
entry_tested end size n e ea eb = rw (ea, eb)

pub entry_inside : {bank : List ℕ} {n : ℕ} → Header bank → n < count_of bank → place_of n + 10 ≤ length bank
entry_inside h l = let i = h.inside in omega arith

pub entry_at_tested : (bank : List ℕ) (n : ℕ) {end count : ℕ} {e : Entry} {b : Bool} → count ≡ count_of bank → end ≡ place_of count → e ≡ entry_at bank n
    → b ≡ is_entry end (length bank) n e → b ≡ is_entry_at bank n
entry_at_tested bank n ec ed ee eb = rw (eb, ed, ec, ee)

-- what is good in a file is good in a longer one
sound_longer : (end size more : ℕ) (e : Entry) → size ≤ more → is_sound end size e ≡ true → is_sound end more e ≡ true
unfolding is_sound
sound_longer end size more e l t =
    keep (eqb e.kind 0) (leb end e.offset) (leb stop size) (leb stop more) _ (λ u. le-leb stop more (le_trans (leb-true stop size u) l)) t
  where
    stop : ℕ
    stop = e.offset + e.count * 16

    keep : (a b p q c : Bool) → (p ≡ true → q ≡ true) → (a && (b && (p && c))) ≡ true → (a && (b && (q && c))) ≡ true
    keep true true true q c i u = rw (i refl) u
    keep true true false q c i u = absurd (false≢true u)
    keep true false p q c i u = absurd (false≢true u)
    keep false b p q c i u = absurd (false≢true u)

pub entry_longer : (end size more n : ℕ) (e : Entry) → size ≤ more → is_entry end size n e ≡ true → is_entry end more n e ≡ true
unfolding is_entry
entry_longer end size more n e l t = keep (is_sound end size e) (is_sound end more e) (is_alias n e) (sound_longer end size more e l) t
  where
    keep : (p q c : Bool) → (p ≡ true → q ≡ true) → (p || c) ≡ true → (q || c) ≡ true
    keep true q c i u = rw (i refl)
    keep false true c i u = refl
    keep false false c i u = u

-- ---- damage

pub nowhere : (d : Checked) → is_nowhere d ≡ true → d ≡ Ok tt
nowhere (Ok u) t = refl
nowhere (Err e) t = absurd (false≢true t)

module _ (good : ℕ → Bool) where
  pub below_none : damage_below good 0 ≡ Ok tt
  unfolding damage_below
  below_none = refl

  pub below_more : (n : ℕ) → damage_below good n ≡ Ok tt → good n ≡ true → damage_below good (n + 1) ≡ Ok tt
  unfolding damage_below
  below_more n e g = rw (add-one, e, g)

  -- the first stays the first
  pub below_found : (n k : ℕ) → damage_below good n ≡ Ok tt → good n ≡ false → n < k → damage_below good k ≡ Err (AtEntry n)
  unfolding damage_below
  below_found n zero e g h = absurd (omega arith)
  below_found n (suc k) e g h =
      elim (dec_lt n k) [
        | yes q ↦ rw (below_found n k e g q)
        | no q ↦ let s : k ≡ n = omega arith in rw (s, e, g)
      ]

  -- nowhere below k + 1: nowhere below k, and not at k
  one_more : (k : ℕ) (d : Checked) (b : Bool) → is_nowhere (earlier d (cond b (Ok tt) (Err (AtEntry k)))) ≡ (is_nowhere d && b)
  one_more k (Ok u) true = refl
  one_more k (Ok u) false = refl
  one_more k (Err e) b = refl

  pub below_all : (k : ℕ) → is_nowhere (damage_below good k) ≡ true → (n : ℕ) → n < k → good n ≡ true
  unfolding damage_below
  below_all zero e n h = absurd (omega arith)
  below_all (suc k) e n h =
      let b = sym (one_more k (damage_below good k) (good k)) ∙ e in
      elim (dec_lt n k) [
        | yes q ↦ below_all k (and_first (is_nowhere (damage_below good k)) _ b) n q
        | no q ↦ let s : k ≡ n = omega arith in rw (← s) (and_rest (is_nowhere (damage_below good k)) _ b)
      ]

  pub below_same : (other : ℕ → Bool) (k : ℕ) → ((n : ℕ) → n < k → good n ≡ other n) → damage_below good k ≡ damage_below other k
  unfolding damage_below
  below_same other zero g = refl
  below_same other (suc k) g = rw (below_same other k (λ n h. g n (omega arith)), g k (omega arith))

  pub all_below_lem : (k : ℕ) → ((n : ℕ) → n < k → good n ≡ true) → damage_below good k ≡ Ok tt
  unfolding damage_below
  all_below_lem zero g = refl
  all_below_lem (suc k) g = rw (all_below_lem k (λ n h. g n (omega arith)), g k (omega arith))

-- ---- a good bank

pub record Good (bank : List ℕ) : Type 0 where
  pub header : is_header bank ≡ true
  pub entries : (n : ℕ) → n < count_of bank → is_entry_at bank n ≡ true

pub good_is : (bank : List ℕ) → is_good bank ≡ true → Good bank
unfolding is_good damage_of
good_is bank t = by (is_header bank) refl t
  where
    by : (b : Bool) → is_header bank ≡ b → is_nowhere (cond b (damage_below (is_entry_at bank) (count_of bank)) (Err InHeader)) ≡ true → Good bank
    by true h u = record { header = h; entries = below_all (is_entry_at bank) (count_of bank) u }
    by false h u = absurd (false≢true u)

pub is_good_lem : (bank : List ℕ) → Good bank → is_good bank ≡ true
unfolding is_good damage_of
is_good_lem bank g = rw (g.header, all_below_lem (is_entry_at bank) (count_of bank) g.entries)

-- d is what `check` answered
pub good_told : (bank : List ℕ) {d : Checked} → d ≡ damage_of bank → is_good bank ≡ is_nowhere d
unfolding is_good
good_told bank e = ap is_nowhere (sym e)

pub good_header : (bank : List ℕ) → is_good bank ≡ true → Header bank
good_header bank t = header_is bank (good_is bank t).header

-- ---- what `check` answers

module _ (bank : List ℕ) where
  pub check_header : {b : Bool} → b ≡ is_header bank → b ≡ false → Err InHeader ≡ damage_of bank
  unfolding damage_of
  check_header {b} e t = rw (← e, t)

  module _ {b : Bool} (e : b ≡ is_header bank) (t : b ≡ true) where
    pub tested_header : is_header bank ≡ true
    tested_header = sym e ∙ t

    pub checked : Header bank
    checked = header_is bank tested_header

    pub check_entry : (n : ℕ) → damage_below (is_entry_at bank) n ≡ Ok tt → is_entry_at bank n ≡ false → n < count_of bank → Err (AtEntry n) ≡ damage_of bank
    unfolding damage_of
    check_entry n d g h = rw (← e, t, below_found (is_entry_at bank) n (count_of bank) d g h)

    pub check_all : (n : ℕ) → damage_below (is_entry_at bank) n ≡ Ok tt → n ≤ count_of bank → count_of bank ≤ n → Ok tt ≡ damage_of bank
    unfolding damage_of
    check_all n d l h = let q : count_of bank ≡ n = omega arith in rw (← e, t, q, d)

  -- ---- what `read_entry` answers

  pub fields_damaged : {b : Bool} → b ≡ is_header bank → b ≡ false → (n : ℕ) → Err Damaged ≡ fields_of bank n
  unfolding fields_of
  fields_damaged {b} e t n = rw (← e, t)

  module _ {b : Bool} (e : b ≡ is_header bank) (t : b ≡ true) (n : ℕ) {k : ℕ} (f : k ≡ count_of bank) where
    pub fields_none : k ≤ n → Err NoEntry ≡ fields_of bank n
    unfolding fields_of
    fields_none h = rw (← e, t, ← f, le-ltb n k h)

    pub fields_read : n < k → {y : Entry} → y ≡ entry_at bank n → Ok y ≡ fields_of bank n
    unfolding fields_of
    fields_read h g = rw (← e, t, ← f, lt-ltb n k h, g)
