-- The registers: 256 halfwords as last written, the one at an offset from 1F801C00h. Assumes nothing.
use Rattle.std.specs.Prelude.{◌≡◌, Bool, List, ℕ, ◌+◌, ◌*◌, ◌/◌, ◌%◌, ◌<◌, get_or}
use Rattle.fixed.specs.Bits.{bit}

unfoldable pub register_at : List ℕ → ℕ → ℕ
register_at regs offset = get_or regs (offset / 2) 0

-- "voice n at 10h·n": one of its eight registers, by its offset from there
unfoldable pub of_voice : List ℕ → ℕ → ℕ → ℕ
of_voice regs n offset = get_or regs (n * 8 + offset / 2) 0

-- "flags in pairs": the flag of voice n, in the pair at an offset; voices 16 to 23 in its second halfword
unfoldable pub flag_of : List ℕ → ℕ → ℕ → Bool
flag_of regs offset n = bit (n % 16) (get_or regs (offset / 2 + n / 16) 0)

-- a pair as one number: its bit n is the flag of voice n
pub record Flags (regs : List ℕ) (offset flags : ℕ) : Type 0 where
  pub each : (n : ℕ) → n < 24 → bit n flags ≡ flag_of regs offset n
