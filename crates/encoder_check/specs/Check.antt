-- A check of encoders: "Given the original samples, the encoded blocks and a largest error E, say yes exactly when .." (document 02, M-113). Assumes nothing.
use Rattle.std.specs.Prelude.{Bool, true, false, cond, not, ◌&&◌, List, ℕ, zero, suc, ◌+◌, ◌*◌, ◌/◌, ◌%◌, min, eqb, leb, ltb, length, take, drop, get_or, ℤ, pos, nat_abs, ◌-ℤ◌, Option, Some, None, Result, Ok, Err}
use Rattle.fixed.specs.Bits.{bit, field}
use Rattle.fixed.specs.Tests.{all_below, first_below}
use Rattle.adpcm.specs.declared.History.{History}
use Rattle.adpcm.specs.Adpcm.{block_of, after_of}
use Rattle.encoder_check.specs.declared.Fault.{Fault}
use Rattle.encoder_check.specs.declared.NotWhole.{NotWhole}
use Rattle.encoder_check.specs.declared.Answer.{Answer}

-- ---- the blocks and their samples

abbrev pub blocks_of : List ℕ → ℕ
blocks_of encoded = length encoded / 16

abbrev pub groups_of : List ℤ → ℕ
groups_of originals = length originals / 28

-- byte k of block n
abbrev pub byte_of : List ℕ → ℕ → ℕ → ℕ
byte_of encoded n k = get_or encoded (n * 16 + k) 0

abbrev pub bytes_of : List ℕ → ℕ → List ℕ
bytes_of encoded n = take 16 (drop (n * 16) encoded)

-- "decoded by 01's formula from zero history": the last two samples before block n
unfoldable pub history_of : List ℕ → ℕ → History
history_of encoded zero = record { old = pos 0; older = pos 0 }
history_of encoded (suc n) = let h = history_of encoded n in after_of h (block_of (bytes_of encoded n) h.old h.older)

-- "each sample decoded": those of block n
abbrev pub decoded_at : List ℕ → ℕ → List ℤ
decoded_at encoded n = let h = history_of encoded n in block_of (bytes_of encoded n) h.old h.older

-- ---- "yes exactly when"

-- "there are as many blocks as whole groups of 28 originals"
abbrev pub are_as_many : List ℤ → List ℕ → Bool
are_as_many originals encoded = eqb (blocks_of encoded) (groups_of originals)

-- a sample "lies within E of its original"; "E runs from 0 to 65,535", so the difference needs 17 bits
unfoldable pub is_within : (e : ℕ) → (sample original : ℤ) → Bool
is_within e x y = leb (nat_abs (x -ℤ y)) e

-- so does sample j of a block whose originals begin at `at`
abbrev pub is_near : (e : ℕ) → (samples originals : List ℤ) → (at j : ℕ) → Bool
is_near e samples originals at j = is_within e (get_or samples j (pos 0)) (get_or originals (at + j) (pos 0))

-- "each sample .. lies within E of its original": those of block n
abbrev pub are_near : List ℤ → List ℕ → (e n : ℕ) → Bool
are_near originals encoded e n = all_below 28 (is_near e (decoded_at encoded n) originals (n * 28))

-- the end flag
abbrev pub has_flag : List ℕ → ℕ → Bool
has_flag encoded n = bit 0 (byte_of encoded n 1)

-- "the last encoded block, and no other, has the end flag": block n has it or not, as it should
abbrev pub is_flag_right : List ℕ → ℕ → Bool
is_flag_right encoded n = cond (eqb (n + 1) (blocks_of encoded)) (has_flag encoded n) (not (has_flag encoded n))

-- "no filter is 5..7": that of block n is not
abbrev pub is_filter_known : List ℕ → ℕ → Bool
is_filter_known encoded n = ltb (field 4 3 (byte_of encoded n 0)) 5

-- all four clauses; "An empty sound is a no"
unfoldable pub is_yes : List ℤ → List ℕ → ℕ → Bool
is_yes originals encoded e =
    are_as_many originals encoded
    && (all_below (blocks_of encoded) (are_near originals encoded e)
    && (all_below (blocks_of encoded) (is_flag_right encoded) && (all_below (blocks_of encoded) (is_filter_known encoded) && not (eqb (blocks_of encoded) 0))))

-- ---- "A no names the first block at fault"

-- the blocks that have a partner: those below this number
abbrev pub pairs_of : List ℤ → List ℕ → ℕ
pairs_of originals encoded = min (blocks_of encoded) (groups_of originals)

-- block n breaks no rule
abbrev pub is_right : List ℤ → List ℕ → (e n : ℕ) → Bool
is_right originals encoded e n = are_near originals encoded e n && (is_flag_right encoded n && is_filter_known encoded n)

-- "where the counts differ, the first block without a partner counts as at fault", after those that have one; "An empty sound is a no at block 0"
unfoldable pub first_fault : List ℤ → List ℕ → ℕ → ℕ
first_fault originals encoded e = first_below (pairs_of originals encoded) (is_right originals encoded e)

-- ---- beyond the request: which rules that block breaks

-- a number that a search below n found, or none
abbrev pub found : (n i : ℕ) → Option ℕ
found n i = cond (ltb i n) (Some i) None

-- the sample is the first that is too far from its original, if one is
abbrev pub broken_at : List ℤ → List ℕ → (e n : ℕ) → Fault
broken_at originals encoded e n =
    record {
      block = n;
      unpaired = false;
      sample = found 28 (first_below 28 (is_near e (decoded_at encoded n) originals (n * 28)));
      end_flag = not (is_flag_right encoded n);
      filter = not (is_filter_known encoded n);
    }

abbrev pub unpaired_at : ℕ → Fault
unpaired_at n = record { block = n; unpaired = true; sample = None; end_flag = false; filter = false }

unfoldable pub fault_of : List ℤ → List ℕ → ℕ → Fault
fault_of originals encoded e =
    let n = first_fault originals encoded e in cond (ltb n (pairs_of originals encoded)) (broken_at originals encoded e n) (unpaired_at n)

-- ---- the call

-- "23 originals not a multiple of 28 or encoded bytes not of 16, before anything is decoded"
abbrev pub is_sized : List ℤ → List ℕ → Bool
is_sized originals encoded = eqb (length originals % 28) 0 && eqb (length encoded % 16) 0

-- yes is the fault None
unfoldable pub verdict_of : List ℤ → List ℕ → ℕ → Result (Option Fault) NotWhole
verdict_of originals encoded e =
    cond (is_sized originals encoded) (Ok (cond (is_yes originals encoded e) None (Some (fault_of originals encoded e)))) (Err (record {}))

-- the number of a fault's sample: 28 if it has none
abbrev pub sample_number : Option ℕ → ℕ
sample_number None = 28
sample_number (Some j) = j

-- number and values of each verdict
abbrev pub answer_of : Result (Option Fault) NotWhole → Answer
answer_of (Ok None) = record { number = 0; yes = true; unpaired = false; end_flag = false; filter = false; block = 0; sample = 0 }
answer_of (Ok (Some f)) =
    record { number = 0; yes = false; unpaired = f.unpaired; end_flag = f.end_flag; filter = f.filter; block = f.block; sample = sample_number f.sample }
answer_of (Err e) = record { number = 23; yes = false; unpaired = false; end_flag = false; filter = false; block = 0; sample = 0 }
