-- The bytes of a bank: their length, and what is read from them. Assumes nothing.
use mathlib.Core.Path.{◌≡◌, refl, sym, ap, ◌∙◌}
use mathlib.Core.Bool.{Bool, true, false, ◌&&◌}
use mathlib.Core.List.{List, ◌++◌}
use Prim.Native.Nat.{ℕ, ◌+◌, ◌≤◌, ◌<◌}
use native.Mathlib.Numerals.{add-one}
use native.Mathlib.Omega.{arith}
use borrow.Author.Tests.{leb-true, eqb-true, le-leb, lt-leb}
use lib.Dec.{eqb, leb}
use lib.ListN.{length, get_or, set, take, length-append}
use lib.Seq.{length-take-le, take-suc, take_all}
use Rattle.fixed.proofs.Bools.{and_first, and_rest}
use Rattle.little_endian.specs.Bytes.{half_bytes, word_bytes, Put}
use Rattle.little_endian.proofs.Puts.{put_one_lem, put_then, put_at_lem, put_first, each_length}
use Rattle.little_endian.proofs.Stands.{Has, all, first, rest, part, half_read, word_read, each_read}
use Rattle.bank.specs.declared.Entry.{Entry}
use Rattle.std.specs.Prelude.{Ok, Err}
use Rattle.bank.specs.Bank.{count_of, place_of, entry_at, is_entry, is_entry_at, damage_below, damage_of, is_nowhere, is_good}
use Rattle.bank.proofs.Laws.{is_header_lem, below_more, below_found, below_same}
use Rattle.bank_write.specs.declared.Refusal.TheVariants.{Damaged, ShortBuffer}
use Rattle.bank_write.specs.Write.{Lists, entry_in, entries_in, entry_bytes, entries_bytes, header_bytes, bank_of, is_entry_in, are_sized, is_writable, written_of}

pub entry_length : (e : Entry) → length (entry_bytes e) ≡ 10
unfolding entry_bytes
entry_length e = refl

pub entry_put : (e : Entry) {xs xs₁ xs₂ xs₃ : List ℕ} {at : ℕ} → Put (half_bytes e.kind) xs at xs₁ → Put (word_bytes e.offset) xs₁ (at + 2) xs₂
    → Put (word_bytes e.count) xs₂ (at + 6) xs₃ → Put (entry_bytes e) xs at xs₃
unfolding entry_bytes
entry_put e a b d = put_then (put_then a b) d

entry_read : {bs : List ℕ} (n : ℕ) (e : Entry) → Has bs (place_of n) (entry_bytes e) → entry_at bs n ≡ e
unfolding entry_at entry_bytes
entry_read {bs} n e h =
    let k = half_read e.kind (first (half_bytes e.kind) (word_bytes e.offset ++ word_bytes e.count) h) in
    let o = word_read {at = place_of n + 2} e.offset (part (half_bytes e.kind) (word_bytes e.offset) (word_bytes e.count) h refl) in
    let c = word_read {at = place_of n + 6} e.count (rest (half_bytes e.kind ++ word_bytes e.offset) (word_bytes e.count) h refl) in
    rw (k, o, c)

-- ---- the entries, one by one: count is the code's count, end its header's end, x its entry n, b its test of that entry

module _ (ls : Lists) (size n : ℕ) {count : ℕ} (k : count ≡ entries_in ls) where
  module _ {end : ℕ} {x : Entry} {b : Bool} (e : end ≡ place_of count) (g : x ≡ entry_in ls n) (f : b ≡ is_entry end size n x)
      (d : damage_below (is_entry_in ls size) n ≡ Ok tt) where
    judged : b ≡ is_entry_in ls size n
    judged = f ∙ rw (e, k, g)

    pub entries_more : b ≡ true → damage_below (is_entry_in ls size) (n + 1) ≡ Ok tt
    entries_more t = below_more (is_entry_in ls size) n d (sym judged ∙ t)

    pub entries_not : b ≡ false → n < count → false ≡ is_nowhere (damage_below (is_entry_in ls size) (entries_in ls))
    entries_not t h = rw (below_found (is_entry_in ls size) n (entries_in ls) d (sym judged ∙ t) (rw (← k) h))

  pub entries_all : damage_below (is_entry_in ls size) n ≡ Ok tt → n ≤ count → count ≤ n → true ≡ is_nowhere (damage_below (is_entry_in ls size) (entries_in ls))
  entries_all d l h = let q : entries_in ls ≡ n = omega (arith, k) in rw (q, d)

-- ---- the data, byte by byte

pub data_more : (ys : List ℕ) (n : ℕ) {xs xs' : List ℕ} {at : ℕ} → Put (take n ys) xs at xs' → n < length ys → at + n < length xs'
    → Put (take (n + 1) ys) xs at (set xs' (at + n) (get_or ys n 0))
data_more ys n {xs} {xs'} {at} p h g =
    let l = length-take-le n ys (omega arith) in
    rw (add-one, take-suc ys n 0 h) (put_at_lem p (put_one_lem xs' (at + n) (get_or ys n 0) g) (rw l))

pub data_end : (ys : List ℕ) (n : ℕ) {xs xs' : List ℕ} {at : ℕ} → Put (take n ys) xs at xs' → length ys ≤ n → Put ys xs at xs'
data_end ys n p h = rw (take_all n ys h) at p

-- ---- a bank

module _ (ls : Lists) where
  pub header_length : length (header_bytes ls) ≡ place_of (entries_in ls)
  unfolding header_bytes
  header_length = let l = each_length (λ n. entry_bytes (entry_in ls n)) 10 (λ n. entry_length (entry_in ls n)) (entries_in ls) in omega arith

  pub bank_length : (body : List ℕ) → length (bank_of ls body) ≡ place_of (entries_in ls) + length body
  unfolding bank_of
  bank_length body = length-append (header_bytes ls) body ∙ rw header_length

  pub header_put : {xs xs₁ xs₂ : List ℕ} {count : ℕ} → count ≡ entries_in ls → Put (half_bytes count) xs 0 xs₁ → Put (entries_bytes ls) xs₁ 2 xs₂ → Put (header_bytes ls) xs 0 xs₂
  unfolding header_bytes
  header_put k a b = put_at_lem (rw k at a) b refl

  pub bank_put : (body : List ℕ) {xs xs₁ xs₂ : List ℕ} {end : ℕ} → end ≡ place_of (entries_in ls) → Put (header_bytes ls) xs 0 xs₁ → Put body xs₁ end xs₂
      → Put (bank_of ls body) xs 0 xs₂
  unfolding bank_of
  bank_put body e a b = let l = header_length in put_at_lem a b (omega (arith, e))

  module _ {bs : List ℕ} (h : Has bs 0 (header_bytes ls)) where
    pub count_read : count_of bs ≡ entries_in ls
    unfolding count_of header_bytes
    count_read = half_read (entries_in ls) (first (half_bytes (entries_in ls)) (entries_bytes ls) h)

    pub entry_back : (n : ℕ) → n < entries_in ls → entry_at bs n ≡ entry_in ls n
    unfolding header_bytes
    entry_back n l =
        let s : Has bs 2 (entries_bytes ls) = rest (half_bytes (entries_in ls)) (entries_bytes ls) h refl in
        entry_read n (entry_in ls n) (each_read (λ k. entry_bytes (entry_in ls k)) 10 (entries_in ls) (λ k. entry_length (entry_in ls k)) s n l)

  header_stands : (body : List ℕ) → Has (bank_of ls body) 0 (header_bytes ls)
  unfolding bank_of
  header_stands body = first (header_bytes ls) body (all (header_bytes ls ++ body))

  module _ (body : List ℕ) where
    pub written_count : count_of (bank_of ls body) ≡ entries_in ls
    written_count = count_read (header_stands body)

    pub written_entry : (n : ℕ) → n < entries_in ls → entry_at (bank_of ls body) n ≡ entry_in ls n
    written_entry n l = entry_back (header_stands body) n l

    -- it is good if its entries are
    pub written_good : entries_in ls ≤ 1024
        → is_nowhere (damage_below (is_entry_in ls (place_of (entries_in ls) + length body)) (entries_in ls)) ≡ is_good (bank_of ls body)
    unfolding is_good damage_of
    written_good m =
        let l = bank_length body in
        let h = is_header_lem (bank_of ls body) (record { two = omega arith; most = rw written_count m; inside = rw written_count (omega arith) }) in
        rw (h, written_count)
        (ap is_nowhere (below_same _ (is_entry_at (bank_of ls body)) (entries_in ls) (λ n b. rw (written_count, l, written_entry n b))))

-- ---- what the code tests

pub record Sized (ls : Lists) : Type 0 where
  pub offsets : length ls.offsets ≡ entries_in ls
  pub counts : length ls.counts ≡ entries_in ls
  pub most : entries_in ls ≤ 1024

pub sized_is : (ls : Lists) → are_sized ls ≡ true → Sized ls
unfolding are_sized
sized_is ls t =
    let a : Bool = eqb (length ls.offsets) (entries_in ls) in
    let b : Bool = eqb (length ls.counts) (entries_in ls) in
    let r = and_rest a (b && leb (entries_in ls) 1024) t in
    record { offsets = eqb-true _ _ (and_first a _ t); counts = eqb-true _ _ (and_first b _ r); most = leb-true _ _ (and_rest b _ r) }

pub writable_sized : (ls : Lists) (body : List ℕ) → is_writable ls body ≡ true → Sized ls
unfolding is_writable
writable_sized ls body t = sized_is ls (and_first (are_sized ls) _ t)

pub writable_good : (ls : Lists) (body : List ℕ) → is_writable ls body ≡ true → is_good (bank_of ls body) ≡ true
unfolding is_writable
writable_good ls body t = and_rest (are_sized ls) _ t

-- ---- what `write` answers

pub write_unsized : (ls : Lists) (body out : List ℕ) → are_sized ls ≡ false → record { answer = Err Damaged; out = out } ≡ written_of ls body out
unfolding written_of is_writable
write_unsized ls body out t = rw t

-- hs is what the code holds as the lists, count its count, end its header's end, and w its test of the entries
module _ (ls : Lists) (body out : List ℕ) {hs : Lists} (q : hs ≡ ls) (sized : are_sized ls ≡ true) {count end : ℕ} (k : count ≡ entries_in hs) (f : end ≡ place_of count)
    {w : Bool} (e : w ≡ is_nowhere (damage_below (is_entry_in hs (end + length body)) (entries_in hs))) where
  end_is : end ≡ place_of (entries_in ls)
  end_is = rw (f, k, q)

  length_is : end + length body ≡ length (bank_of ls body)
  length_is = rw (bank_length ls body, end_is)

  tested : w ≡ is_writable ls body
  unfolding is_writable
  tested = rw sized (e ∙ rw (q, end_is) (written_good ls body (sized_is ls sized).most))

  pub write_bad : w ≡ false → record { answer = Err Damaged; out = out } ≡ written_of ls body out
  unfolding written_of
  write_bad t = rw (← tested, t)

  module _ (t : w ≡ true) where
    pub write_short : length out < end + length body → record { answer = Err ShortBuffer; out = out } ≡ written_of ls body out
    unfolding written_of
    write_short h = rw (← tested, t, ← length_is, lt-leb (end + length body) (length out) h)

    pub write_done : {out₁ out₂ : List ℕ} → end + length body ≤ length out → Put (header_bytes hs) out 0 out₁ → Put body out₁ end out₂
        → record { answer = Ok (end + length body); out = out₂ } ≡ written_of ls body out
    unfolding written_of
    write_done h a b =
        rw (← tested, t, ← length_is, le-leb (end + length body) (length out) h, put_first (bank_of ls body) (bank_put ls body end_is (rw q at a) b)) (rw length_is)
