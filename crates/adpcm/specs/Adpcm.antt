-- ADPCM: document 01's "Load". Assumes nothing.
use Rattle.std.specs.Prelude.{cond, List, [], ◌∷◌, ℕ, ◌-◌, ◌%◌, ◌^◌, ltb, drop, get_or, ℤ, pos, negsuc, ◌+ℤ◌, ◌*ℤ◌}
use Rattle.fixed.specs.Bits.{field}
use Rattle.fixed.specs.Signed.{signed}
use Rattle.fixed.specs.Arithmetic.{saturated, floor_div}
use Rattle.adpcm.specs.declared.Header.{Header}
use Rattle.adpcm.specs.declared.History.{History}

-- "13..15 act as 9", "5..7 act as 0": a number above most acts as other
unfoldable pub acts_as : ℕ → ℕ → ℕ → ℕ
acts_as most other x = cond (ltb most x) other x

-- "Shift = low nibble of byte 0 ..", "Filter = bits 4-6 .."
unfoldable pub header_of : ℕ → Header
header_of b = record { shift = acts_as 12 9 (b % 16); filter = acts_as 4 0 (field 4 3 b) }

-- "(k0,k1) = (0,0), (60,0), (115,-52), (98,-55), (122,-60)"
abbrev pub k0s : List ℤ
k0s = pos 0 ∷ pos 60 ∷ pos 115 ∷ pos 98 ∷ pos 122 ∷ []

abbrev pub k1s : List ℤ
k1s = pos 0 ∷ pos 0 ∷ negsuc 51 ∷ negsuc 54 ∷ negsuc 59 ∷ []

abbrev pub k0_of : ℕ → ℤ
k0_of filter = get_or k0s filter (pos 0)

abbrev pub k1_of : ℕ → ℤ
k1_of filter = get_or k1s filter (pos 0)

-- "(old·k0 + older·k1 + 32)/64 rounded down"
unfoldable pub predicted_of : ℕ → ℤ → ℤ → ℤ
predicted_of filter old older = floor_div (old *ℤ k0_of filter +ℤ older *ℤ k1_of filter +ℤ pos 32) 64

-- "Sample = saturate(t·2^(12-shift) + ..), t the signed nibble"
unfoldable pub sample_of : ℕ → Header → ℤ → ℤ → ℤ
sample_of t h old older = saturated (signed 4 t *ℤ pos (2 ^ (12 - h.shift)) +ℤ predicted_of h.filter old older)

-- the samples of a row of nibbles, each from the two before it
unfoldable pub samples_of : Header → List ℕ → ℤ → ℤ → List ℤ
samples_of h [] old older = []
samples_of h (t ∷ ts) old older = let new = sample_of t h old older in new ∷ samples_of h ts new old

-- "low nibble first"
unfoldable pub nibbles_of : List ℕ → List ℕ
nibbles_of [] = []
nibbles_of (b ∷ bs) = b % 16 ∷ field 4 4 b ∷ nibbles_of bs

-- a block's samples: byte 0 is the header, byte 1 the loop flags, the others hold the nibbles
unfoldable pub block_of : List ℕ → ℤ → ℤ → List ℤ
block_of bytes old older = samples_of (header_of (get_or bytes 0 0)) (nibbles_of (drop 2 bytes)) old older

-- the last two samples after those of a row
unfoldable pub after_of : History → List ℤ → History
after_of h [] = h
after_of h (x ∷ xs) = after_of (record { old = x; older = h.old }) xs
