-- The pitch counter of document 000. Assumes nothing.
use Rattle.std.specs.Prelude.{Bool, cond, ℕ, ◌+◌, ◌/◌, ◌%◌, ltb, ℤ, pos, ◌+ℤ◌}
use Rattle.fixed.specs.Arithmetic.{product_of}
use Rattle.fixed.specs.Signed.{signed, bits_of}
use Rattle.pitch.specs.declared.Moved.{Moved}

-- "Factor = Factor+8000h", "Step=SignExpand16to32(Step)", "Step = (Step * Factor) SAR 15", "Step=Step AND 0000FFFFh": the register
-- by the amplitude of the voice below
unfoldable pub modulated_of : ℕ → ℤ → ℕ
modulated_of pitch amplitude = bits_of 16 (product_of (amplitude +ℤ pos 0x8000) (signed 16 pitch))

-- "IF Step>3FFFh then Step=4000h"
unfoldable pub limited : ℕ → ℕ
limited step = cond (ltb 0x3FFF step) 0x4000 step

-- "Pitch step by 000's formula, with this tick's amplitude of the voice below"
unfoldable pub step_of : ℕ → Bool → ℤ → ℕ
step_of pitch modulated amplitude = limited (cond modulated (modulated_of pitch amplitude) pitch)

-- "each 1000h moves one sample"
unfoldable pub moved_of : ℕ → ℕ → Moved
moved_of counter step = record { counter = (counter + step) % 0x1000; moves = (counter + step) / 0x1000 }
