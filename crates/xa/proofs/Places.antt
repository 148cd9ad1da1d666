-- Where a sample comes from and where it goes, by group, unit and sample. Assumes nothing.
use mathlib.Core.Path.{◌≡◌, refl, sym, ap, ◌∙◌}
use mathlib.Core.List.{List, [], ◌∷◌, ◌++◌}
use Prim.Native.Nat.{ℕ, zero, suc, ◌+◌, ◌*◌, ◌/◌, ◌%◌, ◌<◌}
use native.Mathlib.Decide.{dec_lt}
use native.Mathlib.Omega.{arith}
use lib.Dec.{eqb, eqb→eq}
use lib.ListN.{length, get_or, get_or-append}
use lib.Seq.{get_or-append-add}
use lib.IntN.{ℤ, pos}
use Rattle.fixed.specs.Bits.{field}
use Rattle.fixed.proofs.Table.{below_at}
use Rattle.adpcm.specs.declared.History.{History}
use Rattle.adpcm.specs.Adpcm.{header_of as block_header_of, after_of}
use Rattle.adpcm.proofs.Laws.{acts_self}
use Rattle.xa.specs.Xa.{header_byte, header_of, nibble_of, unit_of, channel_of, mono_of, left_of, right_of, alternate_of}
use Rattle.xa.proofs.Laws.{nibble_even, nibble_odd, channel_length}

-- ---- in a sector

-- a unit's header is that of a block of document 01 whose first byte has the bits 6 and 7 clear; the filter is tested at each byte
pub header_as_block : (b : ℕ) → b < 256 → header_of b ≡ block_header_of (b % 64)
unfolding header_of block_header_of
header_as_block b l =
    let s : b % 64 % 16 ≡ b % 16 = omega arith in
    let f = eqb→eq (field 4 3 (b % 64)) (field 4 2 b) (below_at 256 (λ b. eqb (field 4 3 (b % 64)) (field 4 2 b)) tt b l) in
    rw (s, f, ← acts_self 4 0 (field 4 2 b) (omega arith))

module _ (sector : List ℕ) (g : ℕ) where
  -- "headers in bytes 4..11"
  pub header_place : (u : ℕ) → u < 8 → header_byte sector (g * 8 + u) ≡ get_or sector (g * 128 + (4 + u)) 0
  header_place u l =
      let d : (g * 8 + u) / 8 ≡ g = omega arith in
      let m : (g * 8 + u) % 8 ≡ u = omega arith in
      rw (d, m)

  -- "data byte 16 + 4·j + k carrying sample j of unit 2k in its low nibble"
  pub low_place : (k j : ℕ) → k < 4 → nibble_of sector (g * 8 + 2 * k) j ≡ get_or sector (g * 128 + (16 + 4 * j + k)) 0 % 16
  low_place k j l =
      let d : (g * 8 + 2 * k) / 8 ≡ g = omega arith in
      let h : (g * 8 + 2 * k) % 8 / 2 ≡ k = omega arith in
      let e = nibble_even sector (g * 8 + 2 * k) j (omega arith) in
      sym (rw (d, h) at e)

  -- "and of unit 2k+1 in its high one"
  pub high_place : (k j : ℕ) → k < 4 → nibble_of sector (g * 8 + (2 * k + 1)) j ≡ get_or sector (g * 128 + (16 + 4 * j + k)) 0 / 16 % 16
  high_place k j l =
      let d : (g * 8 + (2 * k + 1)) / 8 ≡ g = omega arith in
      let h : (g * 8 + (2 * k + 1)) % 8 / 2 ≡ k = omega arith in
      let e = nibble_odd sector (g * 8 + (2 * k + 1)) j (λ z. omega arith) in
      sym (rw (d, h) at e)

-- ---- in the output

module _ (sector : List ℕ) (first step : ℕ) (h : History) where
  -- sample j of a channel's m-th unit, from 0 on: of the unit after the history that the units before it leave
  abbrev pub sample_in : ℕ → ℕ → ℤ
  sample_in m j = get_or (unit_of sector (first + m * step) (after_of h (channel_of sector first step h m))) j (pos 0)

  channel_place : (n m j : ℕ) → m < n → j < 28 → get_or (channel_of sector first step h n) (m * 28 + j) (pos 0) ≡ sample_in m j
  unfolding channel_of
  channel_place zero m j l k = absurd (omega arith)
  channel_place (suc n) m j l k =
      let before = channel_of sector first step h n in
      let last = unit_of sector (first + n * step) (after_of h before) in
      let c = channel_length sector first step h n in
      elim (dec_lt m n) [
        | yes q ↦ get_or-append before last (pos 0) (m * 28 + j) (omega arith) ∙ channel_place n m j q k
        | no q ↦
            let e : m ≡ n = omega arith in
            let i : m * 28 + j ≡ length before + j = omega arith in
            ap (λ (p : ℕ). get_or (before ++ last) p (pos 0)) i ∙ get_or-append-add before last j (pos 0) ∙ ap (λ (p : ℕ). sample_in p j) (sym e)
      ]

-- in mono, sample j of unit u of group g stands at 224·g + 28·u + j
pub mono_place : (sector : List ℕ) (h : History) (g u j : ℕ) → g < 18 → u < 8 → j < 28
    → get_or (mono_of sector h) (224 * g + 28 * u + j) (pos 0) ≡ sample_in sector 0 1 h (8 * g + u) j
mono_place sector h g u j a b c =
    let i : 224 * g + 28 * u + j ≡ (8 * g + u) * 28 + j = omega arith in
    rw i (channel_place sector 0 1 h 144 (8 * g + u) j (omega arith) c)

alternate_left : (xs ys : List ℤ) (i : ℕ) → length ys ≡ length xs → get_or (alternate_of xs ys) (i + i) (pos 0) ≡ get_or xs i (pos 0)
unfolding alternate_of
alternate_left [] ys i e = refl
alternate_left (x ∷ xs) [] i e = absurd (omega arith)
alternate_left (x ∷ xs) (y ∷ ys) zero e = refl
alternate_left (x ∷ xs) (y ∷ ys) (suc i) e = let q : suc i + suc i ≡ suc (suc (i + i)) = omega arith in rw q (alternate_left xs ys i (omega arith))

alternate_right : (xs ys : List ℤ) (i : ℕ) → length ys ≡ length xs → get_or (alternate_of xs ys) (i + i + 1) (pos 0) ≡ get_or ys i (pos 0)
unfolding alternate_of
alternate_right [] [] i e = refl
alternate_right [] (y ∷ ys) i e = absurd (omega arith)
alternate_right (x ∷ xs) [] i e = absurd (omega arith)
alternate_right (x ∷ xs) (y ∷ ys) zero e = refl
alternate_right (x ∷ xs) (y ∷ ys) (suc i) e = let q : suc i + suc i + 1 ≡ suc (suc (i + i + 1)) = omega arith in rw q (alternate_right xs ys i (omega arith))

-- in stereo, sample j of unit 2k of group g stands at 224·g + 56·k + 2·j, and that of unit 2k+1 right after it
module _ (sector : List ℕ) (left right : History) (g k j : ℕ) (a : g < 18) (b : k < 4) (c : j < 28) where
  e : length (right_of sector right) ≡ length (left_of sector left)
  e = channel_length sector 1 2 right 72 ∙ sym (channel_length sector 0 2 left 72)

  pub left_place : get_or (alternate_of (left_of sector left) (right_of sector right)) (224 * g + 56 * k + 2 * j) (pos 0) ≡ sample_in sector 0 2 left (4 * g + k) j
  left_place =
      let m = (4 * g + k) * 28 + j in
      let i : 224 * g + 56 * k + 2 * j ≡ m + m = omega arith in
      rw i (alternate_left (left_of sector left) (right_of sector right) m e ∙ channel_place sector 0 2 left 72 (4 * g + k) j (omega arith) c)

  pub right_place : get_or (alternate_of (left_of sector left) (right_of sector right)) (224 * g + 56 * k + 2 * j + 1) (pos 0) ≡ sample_in sector 1 2 right (4 * g + k) j
  right_place =
      let m = (4 * g + k) * 28 + j in
      let i : 224 * g + 56 * k + 2 * j + 1 ≡ m + m + 1 = omega arith in
      rw i (alternate_right (left_of sector left) (right_of sector right) m e ∙ channel_place sector 1 2 right 72 (4 * g + k) j (omega arith) c)
