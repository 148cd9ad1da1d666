-- What the writer accepts is read back: the same entries and the same sounds, from the bank and from the buffer that it begins. Assumes nothing.
use mathlib.Core.Path.{◌≡◌, refl, sym, ap, subst, ◌∙◌}
use mathlib.Core.Bool.{Bool, true, false, cond}
use mathlib.Core.List.{List, [], ◌++◌, append-nil}
use Prim.Native.Nat.{ℕ, ◌*◌, ◌<◌}
use lib.Dec.{leb}
use lib.ListN.{length, take, drop}
use lib.Seq.{take-append_seam}
use Rattle.std.specs.Prelude.{Ok, Err}
use Rattle.bank.specs.Bank.{count_of, place_of, entry_at, is_good, sound_of, found_in, part_of}
use Rattle.bank.proofs.Laws.{good_is}
use Rattle.bank.proofs.Leads.{leads_same, sound_below, sound_lies}
use Rattle.bank.proofs.Finds.{find_title, find_house}
use Rattle.bank.proofs.Longer.{part_longer, count_longer, entry_same, good_longer, found_longer}
use Rattle.bank_write.specs.declared.Refusal.TheVariants.{Damaged, ShortBuffer}
use Rattle.bank_write.specs.Write.{Lists, entry_in, entries_in, bank_of, is_writable, Written, written_of, sound_in, ReadBack}
use Rattle.bank_write.proofs.Bytes.{writable_good, written_count, written_entry}

-- a good bank of these entries, with or without bytes past it
module _ (ls : Lists) (bank rest : List ℕ) (g : is_good bank ≡ true) (c : count_of bank ≡ entries_in ls)
    (s : (n : ℕ) → n < entries_in ls → entry_at bank n ≡ entry_in ls n) where
  abbrev file : List ℕ
  file = bank ++ rest

  below : {n : ℕ} → n < entries_in ls → n < count_of bank
  below h = rw c h

  -- the sound that entry n leads to, by the bank and by the lists
  leads : (n : ℕ) → n < entries_in ls → sound_of (entry_in ls) n ≡ sound_of (entry_at bank) n
  leads n h =
      leads_same (entry_at bank) (place_of (count_of bank)) (length bank) (count_of bank) (good_is bank g).entries (entry_in ls) (λ k b. sym (s k (rw (← c) b))) n n (below h)

  entry_led : (n : ℕ) → n < entries_in ls → entry_at bank (sound_of (entry_at bank) n) ≡ entry_in ls (sound_of (entry_in ls) n)
  entry_led n h = rw (leads n h) (s (sound_of (entry_at bank) n) (rw (← c) (sound_below bank g n (below h))))

  -- what is found in the file, whichever of the two banks it is, is the sound
  part_found : (h : Bool) (title house : List ℕ) → cond h house title ≡ file → (n : ℕ) → n < entries_in ls → part_of title house (Ok (found_in h bank n)) ≡ sound_in ls bank n
  unfolding part_of found_in
  part_found h title house e n b =
      let x = entry_at bank (sound_of (entry_at bank) n) in
      rw (e, part_longer bank rest x.offset (x.count * 16) (sound_lies bank g n (below b)).stop, entry_led n b)

  sound_found : (h : Bool) (title house : List ℕ) → cond h house title ≡ file → (n : ℕ) → n < entries_in ls → part_of title house (Ok (found_in h file n)) ≡ sound_in ls bank n
  sound_found h title house e n b = ap (λ f. part_of title house (Ok f)) (found_longer bank rest g h n (below b)) ∙ part_found h title house e n b

  pub read_back : ReadBack ls bank file
  read_back =
      record {
        good = good_longer bank rest g;
        count = count_longer bank rest g ∙ c;
        entries = λ n h. entry_same bank rest g n (below h) ∙ s n h;
        in_title = λ house k n h.
            ap (part_of file house) (sym (find_title file house n (good_longer bank rest g) k refl (rw (count_longer bank rest g) (below h)) refl))
            ∙ sound_found false file house refl n h;
        in_house = λ title k n m h.
            ap (part_of title file) (sym (find_house title file n k (good_longer bank rest g) refl m refl (rw (count_longer bank rest g) (below h)) refl))
            ∙ sound_found true title file refl n h;
      }

-- ---- what the writer accepts

module _ (ls : Lists) (body out : List ℕ) where
  abbrev bank : List ℕ
  bank = bank_of ls body

  pub record Accepted (n : ℕ) (w : Written) : Type 0 where
    pub writable : is_writable ls body ≡ true
    pub length_is : n ≡ length bank
    pub out_is : w.out ≡ bank ++ drop (length bank) out

  pub accepted : {n : ℕ} → (written_of ls body out).answer ≡ Ok n → Accepted n (written_of ls body out)
  unfolding written_of
  accepted {n} e = by (is_writable ls body) refl (leb (length bank) (length out)) e
    where
      given : Bool → Bool → Written
      given w l =
          cond w (cond l (record { answer = Ok (length bank); out = bank ++ drop (length bank) out }) (record { answer = Err ShortBuffer; out = out }))
          (record { answer = Err Damaged; out = out })

      by : (w : Bool) → is_writable ls body ≡ w → (l : Bool) → (given w l).answer ≡ Ok n → Accepted n (given w l)
      by true t true f = record { writable = t; length_is = cc; out_is = refl }
      by true t false f = cc
      by false t l f = cc

  back : (rest : List ℕ) → is_writable ls body ≡ true → ReadBack ls bank (bank ++ rest)
  back rest t = read_back ls bank rest (writable_good ls body t) (written_count ls body) (written_entry ls body)

  -- the whole buffer, and the part of it that was written
  module _ {n : ℕ} (e : (written_of ls body out).answer ≡ Ok n) where
    pub buffer_back : ReadBack ls bank (written_of ls body out).out
    buffer_back = let a = accepted e in subst (ReadBack ls bank) (sym a.out_is) (back (drop (length bank) out) a.writable)

    pub written_back : ReadBack ls bank (take n (written_of ls body out).out)
    written_back =
        let a = accepted e in
        let q : take n (written_of ls body out).out ≡ bank = rw (a.length_is, a.out_is) (take-append_seam bank (drop (length bank) out)) in
        subst (ReadBack ls bank) (append-nil bank ∙ sym q) (back [] a.writable)
