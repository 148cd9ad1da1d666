-- Bytes past a good bank change nothing of what is read from it. Assumes nothing.
use mathlib.Core.Path.{◌≡◌}
use mathlib.Core.Bool.{Bool, true}
use mathlib.Core.List.{List, ◌++◌}
use Prim.Native.Nat.{ℕ, ◌+◌, ◌≤◌, ◌<◌}
use native.Mathlib.Omega.{arith}
use lib.ListN.{length, take, drop, length-append, length-drop, get_or-append}
use lib.Seq.{take-append-le, drop-append-le}
use Rattle.little_endian.specs.Bytes.{half_at, word_at}
use Rattle.bank.specs.Bank.{count_of, place_of, entry_at, is_good, sound_of, found_in}
use Rattle.bank.proofs.Laws.{Header, is_header_lem, entry_inside, entry_longer, good_is, is_good_lem, good_header}
use Rattle.bank.proofs.Leads.{leads_same, sound_below}

half_longer : (bank rest : List ℕ) (at : ℕ) → at + 2 ≤ length bank → half_at (bank ++ rest) at ≡ half_at bank at
unfolding half_at
half_longer bank rest at h = rw (get_or-append bank rest 0 at (omega arith), get_or-append bank rest 0 (at + 1) (omega arith))

word_longer : (bank rest : List ℕ) (at : ℕ) → at + 4 ≤ length bank → word_at (bank ++ rest) at ≡ word_at bank at
unfolding word_at
word_longer bank rest at h = rw (half_longer bank rest at (omega arith), half_longer bank rest (at + 2) (omega arith))

pub part_longer : (bank rest : List ℕ) (at n : ℕ) → at + n ≤ length bank → take n (drop at (bank ++ rest)) ≡ take n (drop at bank)
part_longer bank rest at n h = let l = length-drop at bank in rw (drop-append-le at bank rest (omega arith)) (take-append-le n (drop at bank) rest (omega arith))

module _ (bank rest : List ℕ) (g : is_good bank ≡ true) where
  header : Header bank
  header = good_header bank g

  abbrev whole : List ℕ
  whole = bank ++ rest

  pub count_longer : count_of whole ≡ count_of bank
  unfolding count_of
  count_longer = half_longer bank rest 0 (omega (arith, header.two))

  pub entry_same : (n : ℕ) → n < count_of bank → entry_at whole n ≡ entry_at bank n
  unfolding entry_at
  entry_same n h =
      let i = entry_inside header h in
      rw (half_longer bank rest (place_of n) (omega arith), word_longer bank rest (place_of n + 2) (omega arith), word_longer bank rest (place_of n + 6) (omega arith))

  pub good_longer : is_good whole ≡ true
  good_longer =
      let l = length-append bank rest in
      is_good_lem whole
      (record {
        header = is_header_lem whole
            (record {
              two = omega (arith, header.two);
              most = rw count_longer header.most;
              inside = let i = header.inside in rw count_longer (omega arith);
            });
        entries = λ n h.
            let k : n < count_of bank = rw (← count_longer) h in
            rw (count_longer, entry_same n k) (entry_longer (place_of (count_of bank)) (length bank) (length whole) n (entry_at bank n) (omega arith) ((good_is bank g).entries n k));
      })

  pub sound_same : (n : ℕ) → n < count_of bank → sound_of (entry_at whole) n ≡ sound_of (entry_at bank) n
  sound_same n h = leads_same (entry_at bank) (place_of (count_of bank)) (length bank) (count_of bank) (good_is bank g).entries (entry_at whole) entry_same n n h

  -- a lookup finds the same in the longer file
  pub found_longer : (h : Bool) (n : ℕ) → n < count_of bank → found_in h whole n ≡ found_in h bank n
  unfolding found_in
  found_longer h n l = rw (sound_same n l, entry_same (sound_of (entry_at bank) n) (sound_below bank g n l))
