-- Writing a sound bank: "entries, then the data as handed in" (document 02, M-100). Assumes nothing.
use Rattle.std.specs.Prelude.{◌≡◌, Bool, true, cond, ◌&&◌, List, ◌++◌, ℕ, ◌*◌, ◌≤◌, ◌<◌, eqb, leb, length, get_or, take, drop, Result, Ok, Err}
use Rattle.little_endian.specs.Bytes.{each, half_bytes, word_bytes}
use Rattle.bank.specs.declared.Entry.{Entry}
use Rattle.bank_write.specs.declared.Refusal.{Refusal}
use Rattle.bank_write.specs.declared.Refusal.TheVariants.{Damaged, ShortBuffer}
use Rattle.bank.specs.Bank.{count_of, most_entries, header_end, entry_at, is_entry, is_good, sound_of, lookup_of}

-- the entries that are handed in, as a list of each field
pub record Lists : Type 0 where
  pub kinds : List ℕ
  pub offsets : List ℕ
  pub counts : List ℕ

abbrev pub lists : (kinds offsets counts : List ℕ) → Lists
lists ks os cs = record { kinds = ks; offsets = os; counts = cs }

abbrev pub entry_in : Lists → ℕ → Entry
entry_in ls n = record { kind = get_or ls.kinds n 0; offset = get_or ls.offsets n 0; count = get_or ls.counts n 0 }

abbrev pub entries_in : Lists → ℕ
entries_in ls = length ls.kinds

-- "per entry a kind (16 bits ..), an offset and a block count (32 bits each), all low byte first"
unfoldable pub entry_bytes : Entry → List ℕ
entry_bytes e = half_bytes e.kind ++ word_bytes e.offset ++ word_bytes e.count

abbrev pub entries_bytes : Lists → List ℕ
entries_bytes ls = each (λ n. entry_bytes (entry_in ls n)) (entries_in ls)

-- "a header with the entry count (16 bits ..), then per entry .., then the data"
unfoldable pub header_bytes : Lists → List ℕ
header_bytes ls = half_bytes (entries_in ls) ++ entries_bytes ls

unfoldable pub bank_of : Lists → List ℕ → List ℕ
bank_of ls «data» = header_bytes ls ++ «data»

-- whether entry n of the lists is good in a file of `size` bytes
abbrev pub is_entry_in : Lists → ℕ → ℕ → Bool
is_entry_in ls size n = is_entry (header_end (entries_in ls)) size n (entry_in ls n)

-- the lists are of one length, "at most 1,024"
unfoldable pub are_sized : Lists → Bool
are_sized ls = eqb (length ls.offsets) (entries_in ls) && (eqb (length ls.counts) (entries_in ls) && leb (entries_in ls) most_entries)

-- the lists are sized so, and the bank to be written is good
unfoldable pub is_writable : Lists → List ℕ → Bool
is_writable ls «data» = are_sized ls && is_good (bank_of ls «data»)

-- "9 .. entries handed to the writer that break the rules"; "24 buffer shorter than the bank to be written"
abbrev pub number_of : Refusal → ℕ
number_of Damaged = 9
number_of ShortBuffer = 24

-- the bank's length or why it is refused, and the buffer
pub record Written : Type 0 where
  pub answer : Result ℕ Refusal
  pub out : List ℕ

-- "the buffer then stays, as do bytes past a written bank"
unfoldable pub written_of : Lists → («data» out : List ℕ) → Written
written_of ls «data» out =
    let bank = bank_of ls «data» in
    cond (is_writable ls «data»)
    (cond (leb (length bank) (length out)) (record { answer = Ok (length bank); out = bank ++ drop (length bank) out })
    (record { answer = Err ShortBuffer; out = out }))
    (record { answer = Err Damaged; out = out })

-- ---- "reading it back gives the same entries and sounds"

-- the bytes that stand in a bank of these entries, at the offset of the sound that entry n is or leads to
abbrev pub sound_in : Lists → List ℕ → ℕ → List ℕ
sound_in ls bank n = let e = entry_in ls (sound_of (entry_in ls) n) in take (e.count * 16) (drop e.offset bank)

-- `file` reads back as `bank`, a bank of these entries. It is good and has the same entries. A lookup gives the same sounds, whether `file` is the title's bank
-- or the house's.
pub record ReadBack (ls : Lists) (bank file : List ℕ) : Type 0 where
  pub good : is_good file ≡ true
  pub count : count_of file ≡ entries_in ls
  pub entries : (n : ℕ) → n < entries_in ls → entry_at file n ≡ entry_in ls n
  pub in_title : (house : List ℕ) → is_good house ≡ true → (n : ℕ) → n < entries_in ls → lookup_of file house n ≡ sound_in ls bank n
  pub in_house : (title : List ℕ) → is_good title ≡ true → (n : ℕ) → count_of title ≤ n → n < entries_in ls → lookup_of title file n ≡ sound_in ls bank n
