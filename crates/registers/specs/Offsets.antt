-- Which offsets there are, which can only be read, and which values cannot be written. Assumes nothing.
use Rattle.std.specs.Prelude.{Bool, cond, ◌&&◌, ◌||◌, not, ℕ, ◌%◌, eqb, leb, ltb}
use Rattle.std.specs.Int.Bits.{bit_and}
use Rattle.fixed.specs.Bits.{bit, field}

abbrev pub between : ℕ → ℕ → ℕ → Bool
between low high x = leb low x && leb x high

-- a voice's register
abbrev pub is_voice : ℕ → Bool
is_voice offset = ltb offset 0x180

-- "Listed offsets": voices, 180h..19Eh, 1A2h..1AEh, 1B0h..1BAh, 1C0h..1FEh; even
unfoldable pub listed : ℕ → Bool
listed offset =
    eqb (offset % 2) 0 && (leb offset 0x19E || (between 0x1A2 0x1AE offset || (between 0x1B0 0x1BA offset || between 0x1C0 0x1FE offset)))

-- "write to 19Ch, 19Eh, 1AEh, 1B8h, 1BAh"
unfoldable pub read_only : ℕ → Bool
read_only offset = eqb offset 0x19C || (eqb offset 0x19E || (eqb offset 0x1AE || (eqb offset 0x1B8 || eqb offset 0x1BA)))

-- "+8 and +Ah ADSR": +Ah is its upper half, bits 31-16
abbrev pub is_upper_adsr : ℕ → Bool
is_upper_adsr offset = is_voice offset && eqb (offset % 16) 0xA

-- "188h..19Eh flags in pairs KON, KOFF, PMON, NON, EON, ENDX": the upper halves, 18Ah, 18Eh, 192h, 196h, 19Ah, 19Eh
abbrev pub is_upper_flags : ℕ → Bool
is_upper_flags offset = between 0x188 0x19E offset && eqb (offset % 4) 2

-- undocumented bits, a term of document 02 (M-103): those of 000's unused bits that it lists, as a mask. "bit 29 of ADSR" (000: "29 Not used? (should be zero)"),
-- "bits 15-8 of the upper flag registers" ("24-31 Not used"), "1ACh bits 15-4 and 0" ("15-4 Unknown/no effect? (should be zero)", "0 Unknown/no effect? (should be
-- zero)"). PMON's "0 Unknown... Unused?" is not on the list
unfoldable pub undocumented_bits : ℕ → ℕ
undocumented_bits offset = cond (is_upper_adsr offset) 0x2000 (cond (is_upper_flags offset) 0xFF00 (cond (eqb offset 0x1AC) 0xFFF1 0))

-- "a write with a nonzero bit there"
unfoldable pub undocumented : ℕ → ℕ → Bool
undocumented offset value = not (eqb (bit_and value (undocumented_bits offset)) 0)

-- "volume with bit 15 set; +Ch of a voice or 1A8h written; .. 1ACh with bits 3-1 other than 2". "Only main volume (180h, 182h) and voice volumes
-- are limited by bit 15."
abbrev pub is_volume : ℕ → Bool
is_volume offset = (is_voice offset && ltb (offset % 16) 4) || (eqb offset 0x180 || eqb offset 0x182)

abbrev pub is_level : ℕ → Bool
is_level offset = is_voice offset && eqb (offset % 16) 0xC

unfoldable pub not_written : ℕ → ℕ → Bool
not_written offset value =
    (is_volume offset && bit 15 value) || (is_level offset || (eqb offset 0x1A8 || (eqb offset 0x1AC && not (eqb (field 1 3 value) 2))))

-- "1A8h read"
abbrev pub not_read : ℕ → Bool
not_read offset = eqb offset 0x1A8
