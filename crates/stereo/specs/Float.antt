-- A stereo pair as 32-bit floats. Assumes nothing.
use Rattle.std.specs.Prelude.{Bool, true, false, ℤ, pos, negsuc, nat_abs, Float}
use Rattle.std.specs.Float.{binary32}
use Rattle.std.specs.Float.Ieee.{round}
use Rattle.std.specs.Float.Ieee.Exact.{HasValue}
use Rattle.stereo.specs.declared.Stereo.{Stereo}

abbrev pub negative : ℤ → Bool
negative (pos n) = false
negative (negsuc n) = true

-- "each sample divided by 32768": z / 8000h, rounded to the nearest 32-bit float
unfoldable pub float_of : ℤ → Float
float_of z = round binary32 (negative z) (nat_abs z) 0x8000

-- "exactly": x is the finite number z / 8000h, with the sign of z, and +0 for 0
abbrev pub Exactly : ℤ → Float → Type 0
Exactly z x = HasValue x (negative z) (nat_abs z) 0x8000

-- "Hosts may have the pair as 32-bit floats"
abbrev pub stereo_of : ℤ → ℤ → Stereo Float
stereo_of left right = record { left = float_of left; right = float_of right }
