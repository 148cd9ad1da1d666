-- XA speech: "Decode sound groups of 128 bytes, 18 to a sector's 2,304, 4-bit, mono or stereo" (document 02, M-104). Assumes nothing.
use Rattle.std.specs.Prelude.{Bool, true, false, cond, ◌&&◌, List, [], ◌∷◌, ◌++◌, ℕ, zero, suc, ◌+◌, ◌*◌, ◌/◌, ◌%◌, eqb, length, get_or, set, ℤ, pos, Result, Ok, Err}
use Rattle.fixed.specs.Bits.{field}
use Rattle.fixed.specs.Tests.{all_below}
use Rattle.adpcm.specs.declared.Header.{Header}
use Rattle.adpcm.specs.declared.History.{History}
use Rattle.adpcm.specs.Adpcm.{acts_as, samples_of, after_of}
use Rattle.xa.specs.declared.Histories.{Histories}
use Rattle.xa.specs.declared.Refusal.{Refusal}
use Rattle.xa.specs.declared.Refusal.TheVariants.{HeaderCopies, EightBit, Lengths}

-- ---- a sector

-- byte i of group g
abbrev pub byte_of : List ℕ → ℕ → ℕ → ℕ
byte_of sector g i = get_or sector (g * 128 + i) 0

-- "bytes 0..3 repeat 4..7, 12..15 repeat 8..11"
abbrev pub is_copied : List ℕ → ℕ → ℕ → Bool
is_copied sector g i = eqb (byte_of sector g i) (byte_of sector g (4 + i)) && eqb (byte_of sector g (12 + i)) (byte_of sector g (8 + i))

abbrev pub is_group_copied : List ℕ → ℕ → Bool
is_group_copied sector g = all_below 4 (is_copied sector g)

-- whole bytes, in every group
abbrev pub are_copied : List ℕ → Bool
are_copied sector = all_below 18 (is_group_copied sector)

-- ---- a unit. A group has eight. They are counted through the sector: unit n is unit n % 8 of group n / 8.

-- "headers in bytes 4..11"
abbrev pub header_byte : List ℕ → ℕ → ℕ
header_byte sector n = byte_of sector (n / 8) (4 + n % 8)

-- "filter in bits 4-5"; the shift is the one of a block of document 01
unfoldable pub header_of : ℕ → Header
header_of b = record { shift = acts_as 12 9 (b % 16); filter = field 4 2 b }

-- "data byte 16 + 4·j + k carrying sample j of unit 2k in its low nibble and of unit 2k+1 in its high one"
unfoldable pub nibble_of : List ℕ → ℕ → ℕ → ℕ
nibble_of sector n j = field (n % 2 * 4) 4 (byte_of sector (n / 8) (16 + 4 * j + n % 8 / 2))

-- the nibbles of its samples from j on, k of them
unfoldable pub nibbles_of : List ℕ → ℕ → ℕ → ℕ → List ℕ
nibbles_of sector n j zero = []
nibbles_of sector n j (suc k) = nibble_of sector n j ∷ nibbles_of sector n (suc j) k

-- "The sample formula is the one in 01"
unfoldable pub unit_of : List ℕ → ℕ → History → List ℤ
unit_of sector n h = samples_of (header_of (header_byte sector n)) (nibbles_of sector n 0 28) h.old h.older

-- ---- a channel: left, right or mono

-- "each keep a history": the samples of the first n of the units `first`, `first + step`, .., each unit after the history that the one before it leaves
unfoldable pub channel_of : List ℕ → (first step : ℕ) → History → (n : ℕ) → List ℤ
channel_of sector first step h zero = []
channel_of sector first step h (suc n) =
    let before = channel_of sector first step h n in before ++ unit_of sector (first + n * step) (after_of h before)

-- "mono units follow in order"
abbrev pub mono_of : List ℕ → History → List ℤ
mono_of sector h = channel_of sector 0 1 h 144

-- "In stereo the even units are left", and the odd ones right
abbrev pub left_of : List ℕ → History → List ℤ
left_of sector h = channel_of sector 0 2 h 72

abbrev pub right_of : List ℕ → History → List ℤ
right_of sector h = channel_of sector 1 2 h 72

-- "left and right alternate in the output"
unfoldable pub alternate_of : (left right : List ℤ) → List ℤ
alternate_of (x ∷ xs) (y ∷ ys) = x ∷ y ∷ alternate_of xs ys
alternate_of [] ys = []
alternate_of (x ∷ xs) [] = []

-- a channel's samples in a buffer that it may share: at the place `at`, and at every `step`-th one from there on
unfoldable pub placed_of : List ℤ → (at step : ℕ) → List ℤ → List ℤ
placed_of out at step [] = out
placed_of out at step (x ∷ xs) = placed_of (set out at x) (at + step) step xs

-- ---- the call

-- "zero when made"
abbrev pub fresh_of : Histories
fresh_of = let zeros : History = record { old = pos 0; older = pos 0 } in record { left = zeros; right = zeros; mono = zeros }

-- "14 sector not 2,304 bytes or output not 4,032 halfwords"
abbrev pub is_sized : List ℕ → List ℤ → Bool
is_sized sector out = eqb (length sector) 2304 && eqb (length out) 4032

-- "12 header copies differ, 13 8-bit asked for, 14 .., given in the order 14, 13, 12"
unfoldable pub number_of : List ℕ → (eightBit : Bool) → List ℤ → ℕ
number_of sector eightBit out = cond (is_sized sector out) (cond eightBit 13 (cond (are_copied sector) 0 12)) 14

pub record Decoded : Type 0 where
  pub number : ℕ
  pub histories : Histories
  pub out : List ℤ

-- the numbers of the refusals, and 0 for none
abbrev pub refused_with : Refusal → ℕ
refused_with HeaderCopies = 12
refused_with EightBit = 13
refused_with Lengths = 14

abbrev pub number_in : {A : Type 0} → Result A Refusal → ℕ
number_in (Ok x) = 0
number_in (Err r) = refused_with r

-- what a call leaves that was handed the histories hs: its number, the histories, which stay as they were if it is refused, and the output
abbrev pub answer_of : Result Histories Refusal → Histories → List ℤ → Decoded
answer_of (Ok after) hs out = record { number = 0; histories = after; out = out }
answer_of (Err r) hs out = record { number = refused_with r; histories = hs; out = out }

-- each history that it leaves is for the next sector: it "carries across groups and sectors"
unfoldable pub accepted_of : List ℕ → (stereo : Bool) → Histories → Decoded
accepted_of sector true hs =
    let left = left_of sector hs.left in
    let right = right_of sector hs.right in
    record { number = 0; histories = record { left = after_of hs.left left; right = after_of hs.right right; mono = hs.mono }; out = alternate_of left right }
accepted_of sector false hs =
    let mono = mono_of sector hs.mono in
    record { number = 0; histories = record { left = hs.left; right = hs.right; mono = after_of hs.mono mono }; out = mono }

-- "the output and history stay as they were"
unfoldable pub decoded_of : List ℕ → (stereo eightBit : Bool) → Histories → List ℤ → Decoded
decoded_of sector stereo eightBit hs out =
    let number = number_of sector eightBit out in
    cond (eqb number 0) (accepted_of sector stereo hs) (record { number = number; histories = hs; out = out })
