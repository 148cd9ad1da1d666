-- Raw sound RAM, not through the core. Assumes nothing.
use Rattle.std.specs.Prelude.{List, ℕ, zero, suc, ◌+◌, set}

-- "raw fill of N bytes, marks untouched"
unfoldable pub filled_of : List ℕ → ℕ → ℕ → ℕ → List ℕ
filled_of ram from byte zero = ram
filled_of ram from byte (suc n) = set (filled_of ram from byte n) (from + n) byte
