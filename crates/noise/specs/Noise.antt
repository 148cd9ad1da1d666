-- The noise generator of document 01, which follows 001's code; its parity as document 02 wants it. Assumes nothing.
use Rattle.std.specs.Prelude.{cond, ℕ, zero, suc, ◌+◌, ◌-◌, ◌*◌, ◌/◌, ◌%◌, ◌^◌, ◌≤◌, eqb, ℤ, pos, nat_abs, ◌+ℤ◌, ◌-ℤ◌}
use Rattle.std.specs.Int.Bits.{bit_and}
use Rattle.std.specs.Int.Count.{ones}
use Rattle.std.specs.Int.Signed.{lt_z}
use Rattle.fixed.specs.Bits.{field}
use Rattle.noise.specs.declared.Noise.{Noise}

-- the exclusive or of two bits, each 0 or 1
abbrev pub xor : ℕ → ℕ → ℕ
xor a b = (a + b) % 2

-- "bits 15, 12, 11, 10 xored". The parity is counted below; `odd_exactly` in proofs/Taps says that the two agree
unfoldable pub xored_of : ℕ → ℕ
xored_of level = xor (xor (xor (field 15 1 level) (field 12 1 level)) (field 11 1 level)) (field 10 1 level)

-- document 02, M-102: "the four taps in one constant". They are bits 15, 12, 11 and 10
abbrev pub taps : ℕ
taps = 0x9C00

-- "a count of ones under a mask": how many taps are set
abbrev pub tap_count_of : ℕ → ℕ
tap_count_of level = ones (bit_and level taps)

-- "inverted": 1 if that count is even, 0 if it is odd
unfoldable pub parity_of : ℕ → ℕ
parity_of level = 1 - tap_count_of level % 2

-- "level = 2·level modulo 10000h plus (..)"
unfoldable pub shifted_of : ℕ → ℕ
shifted_of level = 2 * level % 0x10000 + parity_of level

-- "20000h shifted right by bits 13-10"
unfoldable pub reload_of : ℕ → ℕ
reload_of spucnt = 0x20000 / 2 ^ field 10 4 spucnt

-- "(4 + SPUCNT bits 9-8)"
abbrev pub step_of : ℕ → ℕ
step_of spucnt = 4 + field 8 2 spucnt

-- "then add 20000h shifted right by bits 13-10 until not negative": r is added while z is negative, k times at most
unfoldable pub refilled : ℕ → ℕ → ℤ → ℤ
refilled zero r z = z
refilled (suc k) r z = cond (lt_z z (pos 0)) (refilled k r (z +ℤ pos r)) z

-- "Timer less (4 + SPUCNT bits 9-8). Below zero: level = ..; then add ..". A timer falls below zero by 7 at most, so 7 additions
-- are always enough (`refilled_done`)
unfoldable pub ticked_of : Noise → ℕ → Noise
ticked_of n spucnt =
    let timer = pos n.timer -ℤ pos (step_of spucnt) in
    cond (lt_z timer (pos 0))
    (record { level = shifted_of n.level; timer = nat_abs (refilled 7 (reload_of spucnt) timer) })
    (record { level = n.level; timer = nat_abs timer })

-- "An SPUCNT write that changes bits 13-10 sets the timer to that shifted number."
unfoldable pub written_of : Noise → ℕ → ℕ → Noise
written_of n old new = cond (eqb (field 10 4 old) (field 10 4 new)) n (record { level = n.level; timer = reload_of new })

-- "noise timer 0..20000h"
pub record InRange (n : Noise) : Type 0 where
  pub timer : n.timer ≤ 0x20000
