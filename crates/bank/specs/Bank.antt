-- Sound banks: the house layout, and what a lookup finds (document 02, M-100). Every number here is unbounded. Assumes nothing.
use Rattle.std.specs.Prelude.{Bool, true, false, cond, ◌&&◌, ◌||◌, List, [], ℕ, zero, suc, ◌+◌, ◌*◌, ◌%◌, eqb, leb, ltb, length, take, drop, Result, Ok, Err}
use Rattle.little_endian.specs.Bytes.{half_at, word_at}
use Rattle.bank.specs.declared.Entry.{Entry}
use Rattle.bank.specs.declared.Damage.{Damage}
use Rattle.bank.specs.declared.Damage.TheVariants.{InHeader, AtEntry}
use Rattle.bank.specs.declared.Refusal.{Refusal}
use Rattle.bank.specs.declared.Refusal.TheVariants.{Damaged, NoEntry}
use Rattle.bank.specs.declared.Found.{Found}

-- ---- "a header with the entry count (16 bits, at most 1,024), then per entry a kind (16 bits: 0 sound, 1 alias), an offset and a block count (32 bits
-- each), all low byte first, then the data"

unfoldable pub count_of : List ℕ → ℕ
count_of bank = half_at bank 0

abbrev pub most_entries : ℕ
most_entries = 1024

-- the place of entry n: 2 bytes of count, then 10 for each entry before it
abbrev pub place_of : ℕ → ℕ
place_of n = 2 + n * 10

unfoldable pub entry_at : List ℕ → ℕ → Entry
entry_at bank n = record { kind = half_at bank (place_of n); offset = word_at bank (place_of n + 2); count = word_at bank (place_of n + 6) }

-- "The header ends with its last entry."
abbrev pub header_end : ℕ → ℕ
header_end count = place_of count

-- "at most 1,024"; "A short header .. is damage"
unfoldable pub is_header : List ℕ → Bool
is_header bank = leb 2 (length bank) && (leb (count_of bank) most_entries && leb (header_end (count_of bank)) (length bank))

-- ---- entries. A file of `size` bytes has a header that ends at `end`.

-- "Every sound lies after it, inside the file, at an offset from the file's start that is a multiple of 16, with at least one block." A block is 16 bytes.
unfoldable pub is_sound : (end size : ℕ) → Entry → Bool
is_sound end size e =
    eqb e.kind 0 && (leb end e.offset && (leb (e.offset + e.count * 16) size && (eqb (e.offset % 16) 0 && leb 1 e.count)))

-- "An alias's offset is an entry number (from 0) lower than its own and its count is 0": entry n
unfoldable pub is_alias : ℕ → Entry → Bool
is_alias n e = eqb e.kind 1 && (ltb e.offset n && eqb e.count 0)

-- "any other kind, or an offset or count against these rules is damage"
unfoldable pub is_entry : (end size n : ℕ) → Entry → Bool
is_entry end size n e = is_sound end size e || is_alias n e

-- ---- damage

-- what a check answers: nothing, or the damage
abbrev pub Checked : Type 0
Checked = Result (Unit {0}) Damage

-- the first of two that is damage
abbrev pub earlier : Checked → Checked → Checked
earlier (Ok u) d = d
earlier (Err e) d = Err e

-- the first damage among the entries below n
unfoldable pub damage_below : (ℕ → Bool) → ℕ → Checked
damage_below isGoodAt zero = Ok tt
damage_below isGoodAt (suc n) = earlier (damage_below isGoodAt n) (cond (isGoodAt n) (Ok tt) (Err (AtEntry n)))

abbrev pub is_entry_at : List ℕ → ℕ → Bool
is_entry_at bank n = is_entry (header_end (count_of bank)) (length bank) n (entry_at bank n)

-- where a bank is damaged: nowhere, in its header, or at which entry first
unfoldable pub damage_of : List ℕ → Checked
damage_of bank = cond (is_header bank) (damage_below (is_entry_at bank) (count_of bank)) (Err InHeader)

abbrev pub is_nowhere : Checked → Bool
is_nowhere (Ok u) = true
is_nowhere (Err e) = false

unfoldable pub is_good : List ℕ → Bool
is_good bank = is_nowhere (damage_of bank)

-- ---- "aliases may lead to aliases"

-- the entry that entry n leads to, by k aliases at the most
unfoldable pub leads_to : (ℕ → Entry) → ℕ → ℕ → ℕ
leads_to entry zero n = n
leads_to entry (suc k) n = cond (eqb (entry n).kind 1) (leads_to entry k (entry n).offset) n

-- the sound that entry n is, or leads to. Each alias leads to a lower number, so n of them are enough.
abbrev pub sound_of : (ℕ → Entry) → ℕ → ℕ
sound_of entry n = leads_to entry n n

-- ---- "We look a number up in two lent banks: the found sample is the caller's own bytes, from the title's bank or, where the title lacks that number, from
-- the house's bank."

-- "9 either bank damaged", "10 no such entry in either"
abbrev pub number_of : Refusal → ℕ
number_of Damaged = 9
number_of NoEntry = 10

unfoldable pub found_in : (isHouse : Bool) → List ℕ → ℕ → Found
found_in isHouse bank n =
    let s = sound_of (entry_at bank) n in
    record { house = isHouse; entry = s; offset = (entry_at bank s).offset; length = (entry_at bank s).count * 16 }

unfoldable pub found_of : (title house : List ℕ) → ℕ → Result Found Refusal
found_of title house n =
    cond (is_good title && is_good house)
    (cond (ltb n (count_of title)) (Ok (found_in false title n)) (cond (ltb n (count_of house)) (Ok (found_in true house n)) (Err NoEntry)))
    (Err Damaged)

-- the bytes of what is found, none where nothing is
unfoldable pub part_of : (title house : List ℕ) → Result Found Refusal → List ℕ
part_of title house (Ok f) = take f.length (drop f.offset (cond f.house house title))
part_of title house (Err r) = []

abbrev pub lookup_of : (title house : List ℕ) → ℕ → List ℕ
lookup_of title house n = part_of title house (found_of title house n)

-- ---- an entry as it stands in the file, good or not, for tools that list a bank; refused if the header is damaged, or if there is no such entry

unfoldable pub fields_of : List ℕ → ℕ → Result Entry Refusal
fields_of bank n = cond (is_header bank) (cond (ltb n (count_of bank)) (Ok (entry_at bank n)) (Err NoEntry)) (Err Damaged)
