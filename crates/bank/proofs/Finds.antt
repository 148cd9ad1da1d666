-- What a lookup finds, from the code's tests; and that it lies in its bank. Assumes nothing.
use mathlib.Core.Path.{◌≡◌, refl, sym, subst, ◌∙◌}
use mathlib.Core.Bool.{Bool, true, false, cond, ◌&&◌}
use mathlib.Core.List.{List, []}
use Prim.Native.Nat.{ℕ, ◌+◌, ◌-◌, ◌*◌, ◌≤◌, ◌<◌}
use native.Mathlib.Omega.{arith}
use borrow.Author.Tests.{ltb-true, lt-ltb, le-ltb}
use lib.Dec.{ltb}
use lib.ListN.{length, take, drop}
use Rattle.fixed.proofs.Bools.{and_first, and_rest}
use Rattle.bank.specs.declared.Entry.{Entry}
use Rattle.std.proofs.lemmas.Bool.{and_right}
use Rattle.std.specs.Prelude.{Result, Ok, Err, IsErrAnd}
use Rattle.bank.specs.declared.Found.{Found}
use Rattle.bank.specs.declared.Refusal.{Refusal}
use Rattle.bank.specs.declared.Refusal.TheVariants.{Damaged, NoEntry}
use Rattle.bank.specs.Bank.{count_of, entry_at, is_good, sound_of, found_in, found_of, part_of, lookup_of}
use Rattle.bank.proofs.Leads.{sound_lies}

pub found_as : (house : Bool) (bank : List ℕ) (n : ℕ) {s : ℕ} {e : Entry} → s ≡ sound_of (entry_at bank) n → e ≡ entry_at bank s
    → record { house = house; entry = s; offset = e.offset; length = e.count * 16 } ≡ found_in house bank n
unfolding found_in
found_as house bank n es ee = rw (ee, es)

-- ---- what `find` answers

-- r is what the code's `?` answers
damaged : (r : Result Found Refusal) → IsErrAnd r (λ x. x ≡ Damaged) → r ≡ Err Damaged
damaged (Ok f) h = absurd h
damaged (Err x) h = rw h

module _ (title house : List ℕ) (n : ℕ) where
  module _ (r : Result Found Refusal) (h : IsErrAnd r (λ x. x ≡ Damaged)) where
    pub find_title_damaged : is_good title ≡ false → r ≡ found_of title house n
    unfolding found_of
    find_title_damaged t = rw (damaged r h, t)

    pub find_house_damaged : is_good house ≡ false → r ≡ found_of title house n
    unfolding found_of
    find_house_damaged t = rw (damaged r h, and_right (is_good title) (is_good house) t)

  module _ (gt : is_good title ≡ true) (gh : is_good house ≡ true) {k : ℕ} (ek : k ≡ count_of title) where
    pub find_title : {f : Found} → n < k → f ≡ found_in false title n → Ok f ≡ found_of title house n
    unfolding found_of
    find_title l e = rw (e, gt, gh, ← ek, lt-ltb n k l)

    module _ (l : k ≤ n) {j : ℕ} (ej : j ≡ count_of house) where
      pub find_house : {f : Found} → n < j → f ≡ found_in true house n → Ok f ≡ found_of title house n
      unfolding found_of
      find_house m e = rw (e, gt, gh, ← ek, le-ltb n k l, ← ej, lt-ltb n j m)

      pub find_none : j ≤ n → Err NoEntry ≡ found_of title house n
      unfolding found_of
      find_none m = rw (gt, gh, ← ek, le-ltb n k l, ← ej, le-ltb n j m)

-- ---- where it lies

-- the bank that it lies in
abbrev pub bank_in : (title house : List ℕ) → Found → List ℕ
bank_in title house f = cond f.house house title

pub record Lies (title house : List ℕ) (f : Found) : Type 0 where
  pub is : f.offset + f.length ≤ length (bank_in title house f)

in_lies : (title house : List ℕ) (h : Bool) (n : ℕ) → is_good (cond h house title) ≡ true → n < count_of (cond h house title) → Lies title house (found_in h (cond h house title) n)
unfolding found_in
in_lies title house h n g l = record { is = (sound_lies (cond h house title) g n l).stop }

-- what `find` answers lies so
abbrev pub OkLies : (title house : List ℕ) → Result Found Refusal → Type 0
OkLies title house (Ok f) = Lies title house f
OkLies title house (Err r) = Unit {0}

pub found_lies : (title house : List ℕ) (n : ℕ) → OkLies title house (found_of title house n)
unfolding found_of
found_lies title house n = by (is_good title && is_good house) refl (ltb n (count_of title)) refl (ltb n (count_of house)) refl
  where
    by : (g : Bool) → (is_good title && is_good house) ≡ g → (t : Bool) → ltb n (count_of title) ≡ t → (h : Bool) → ltb n (count_of house) ≡ h
        → OkLies title house (cond g (cond t (Ok (found_in false title n)) (cond h (Ok (found_in true house n)) (Err NoEntry))) (Err Damaged))
    by false _ _ _ _ _ = tt
    by true g true t _ _ = in_lies title house false n (and_first (is_good title) (is_good house) g) (ltb-true _ _ t)
    by true g false _ true h = in_lies title house true n (and_rest (is_good title) (is_good house) g) (ltb-true _ _ h)
    by true g false _ false _ = tt

-- ---- what `lookup` gives: r is what `find` gave

module _ (title house : List ℕ) (n : ℕ) {r : Result Found Refusal} (e : r ≡ found_of title house n) where
  pub found_none : {x : Refusal} → r ≡ Err x → [] ≡ lookup_of title house n
  unfolding part_of
  found_none t = rw (← e, t)

  -- f is what it found
  module _ {f : Found} (i : r ≡ Ok f) where
    lies : Lies title house f
    lies = subst (OkLies title house) (sym e ∙ i) (found_lies title house n)

    pub found_end : (h : Bool) → f.house ≡ h → f.offset + f.length ≤ length (cond h house title)
    found_end h t = rw (← t) lies.is

    pub found_fits : (most : ℕ) → length title < most → length house < most → f.offset + f.length < most
    found_fits most p q = by f.house refl
      where
        by : (h : Bool) → f.house ≡ h → f.offset + f.length < most
        by true t = let l = found_end true t in omega arith
        by false t = let l = found_end false t in omega arith

    pub found_part : (h : Bool) → f.house ≡ h → take (f.offset + f.length - f.offset) (drop f.offset (cond h house title)) ≡ lookup_of title house n
    unfolding part_of
    found_part h t = let q : f.offset + f.length - f.offset ≡ f.length = omega arith in rw (q, ← t, ← e, i)
