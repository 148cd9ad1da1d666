-- Numbers as bytes, low byte first, and bytes that are put at a place. Assumes nothing.
use Rattle.std.specs.Prelude.{◌≡◌, List, [], ◌∷◌, ◌++◌, ℕ, zero, suc, ◌+◌, ◌*◌, ◌/◌, ◌%◌, length, get_or, take, drop}

-- ---- lists by counting

-- f 0, then f 1, .., then f (n - 1)
unfoldable pub each : {A : Type 0} → (ℕ → List A) → ℕ → List A
each f zero = []
each f (suc n) = each f n ++ f n

-- ---- numbers: their bytes, and the number whose bytes stand at a place. By the code's types each number fits its bytes.

-- the two bytes of a number of 16 bits
abbrev pub half_bytes : ℕ → List ℕ
half_bytes v = v % 256 ∷ v / 256 ∷ []

-- the four bytes of a number of 32 bits
abbrev pub word_bytes : ℕ → List ℕ
word_bytes v = half_bytes (v % 0x10000) ++ half_bytes (v / 0x10000)

-- the number of 16 bits at a place
unfoldable pub half_at : List ℕ → ℕ → ℕ
half_at bs at = get_or bs at 0 + get_or bs (at + 1) 0 * 256

-- the number of 32 bits at a place
unfoldable pub word_at : List ℕ → ℕ → ℕ
word_at bs at = half_at bs at + half_at bs (at + 2) * 0x10000

-- ---- bytes that are put

-- xs' is xs with ys put at a place: before the place and past the end of ys it is xs, and it is as long
pub record Put (ys xs : List ℕ) (at : ℕ) (xs' : List ℕ) : Type 0 where
  pub is : take (at + length ys) xs' ≡ take at xs ++ ys
  pub past : drop (at + length ys) xs' ≡ drop (at + length ys) xs
  pub size : length xs' ≡ length xs
