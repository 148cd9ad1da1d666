-- Register reads, as the code makes them. Assumes nothing.
use mathlib.Core.Path.{◌≡◌, refl, sym, ap, ◌∙◌}
use mathlib.Core.Bool.{Bool, true, false, cond}
use mathlib.Core.List.{List}
use Prim.Native.Nat.{ℕ, zero, suc, ◌+◌, ◌*◌, ◌%◌, ◌^◌, ◌≤◌, ◌<◌}
use native.Mathlib.Decide.{dec_lt}
use native.Mathlib.Nat.{pow-suc, lt_of_lt_of_le}
use native.Mathlib.Omega.{arith}
use borrow.Author.Tests.{ne_eqb, leb-true, le-leb, lt-leb}
use lib.Dec.{eqb, leb}
use lib.Pow.{pow_mono}
use lib.ListN.{get_or}
use lib.IntN.{ℤ}
use Rattle.fixed.specs.Bits.{bit, field}
use Rattle.fixed.specs.Signed.{bits_of}
use Rattle.fixed.specs.Arithmetic.{volume_of}
use Rattle.fixed.proofs.Bits.{one_shl}
use Rattle.fixed.proofs.Bools.{and_first, and_rest}
use Rattle.registers.specs.Map.{register_at}
use Rattle.registers.specs.Offsets.{is_level}
use Rattle.voice.specs.declared.Source.{Source}
use Rattle.voice.specs.declared.Voice.{Voice}
use Rattle.voices.specs.Voices.{past_end}
use Rattle.chip.specs.declared.Control.{Control}
use Rattle.chip.specs.State.{State, all_of}
use Rattle.chip.specs.Registers.{is_repeat, end_flags, status_of, doubled, voice_at, read_of}
use Rattle.layout.specs.Layout.{place, row_of, state_of, voice_in, is_row, Formed}
use Rattle.layout.proofs.Laws.{row_at, form_row}
use Rattle.layout.proofs.Read.{ended_is, source_is}
use Rattle.layout.proofs.Tail.{capture_is}

-- ---- end flags

-- the end flag of voice n is 0 or 1
pub ended_bit : (xs : List ℕ) (n : ℕ) → Formed xs → n < 24 → get_or xs (500 + n) 0 ≤ 1
unfolding is_row all_of place
ended_bit xs n f h =
    let ws = row_of xs n in
    let r = form_row xs n f.form h in
    let e : leb (get_or ws 10 0) 1 ≡ true =
    and_first _ true (and_rest (leb (get_or ws 9 0) 0xFF) _ (and_rest (leb (get_or ws 8 0) 1) _ (and_rest (leb (get_or ws 0 0) 5) _ r))) in
    leb-true _ _ (rw (row_at xs n 10 (omega arith)) at e)

pub flag_shl : (ended k : ℕ) → ended ≤ 1 → k < 16 → ended * 2 ^ k % 2 ^ 16 ≡ cond (eqb ended 1) (2 ^ k) 0
flag_shl zero k l h = omega arith
flag_shl (suc zero) k l h = one_shl 16 k h
flag_shl (suc (suc n)) k l h = absurd (omega arith)

flag_most : (b : Bool) (n : ℕ) → cond b n 0 ≤ n
flag_most true n = omega arith
flag_most false n = omega arith

flags_below : (vs : List Voice) (first n : ℕ) → end_flags vs first n < 2 ^ n
unfolding end_flags
flags_below vs first zero = omega arith
flags_below vs first (suc n) =
    let l = flags_below vs first n in
    let m = flag_most (get_or vs (first + n) past_end).ended (2 ^ n) in
    rw (pow-suc 2 n) (omega arith)

pub flags_none : (vs : List Voice) (first : ℕ) → 0 ≡ end_flags vs first zero
unfolding end_flags
flags_none vs first = refl

flags_as : (vs : List Voice) (first k : ℕ) {a b : ℕ} → a ≡ end_flags vs first k → b ≡ cond (get_or vs (first + k) past_end).ended (2 ^ k) 0
    → a + b ≡ end_flags vs first (k + 1)
unfolding end_flags
flags_as vs first k e f = let q : k + 1 ≡ suc k = omega arith in rw (q, e, f)

-- b is the flag of the next voice
module _ (xs : List ℕ) (first k : ℕ) {a b : ℕ} (h : first + k < 24) (e : a ≡ end_flags (state_of xs).voices first k) (f : b ≡ cond (eqb (get_or xs (500 + (first + k)) 0) 1) (2 ^ k) 0) where
  pub flags_more : a + b ≡ end_flags (state_of xs).voices first (k + 1)
  flags_more = flags_as (state_of xs).voices first k e (f ∙ rw (ended_is xs (first + k) h))

  pub flags_fit : k < 16 → a + b < 2 ^ 16
  flags_fit l = rw flags_more (lt_of_lt_of_le (flags_below (state_of xs).voices first (k + 1)) (pow_mono {i = k + 1} {j = 16} (omega arith)))

-- ---- parts of the state

double_half : (x : ℕ) → leb 0x100 x ≡ leb 0x200 (x * 2)
double_half x = elim (dec_lt x 0x100) [
  | yes h ↦ lt-leb 0x100 x h ∙ sym (lt-leb 0x200 (x * 2) (omega arith))
  | no h ↦ le-leb 0x100 x (omega arith) ∙ sym (le-leb 0x200 (x * 2) (omega arith))
]

pub past_half : (xs : List ℕ) → leb 0x100 (get_or xs 1274 0) ≡ leb 0x200 (state_of xs).capture
past_half xs = double_half (get_or xs 1274 0) ∙ ap (leb 0x200) (capture_is xs refl)

pub repeat_is : (xs : List ℕ) (n : ℕ) → n < 24 → get_or xs (428 + n) 0 ≡ (voice_in xs n).source.repeat.0
repeat_is xs n h = ap (λ (s : Source). s.repeat.0) (source_is xs n h refl)

pub status_as : (s : State) {v : Control} {a b c d e : ℕ} {p : Bool} → v ≡ s.control → p ≡ leb 0x200 s.capture → a ≡ cond v.latch 0x40 0 → b ≡ cond (bit 5 (v.applied % 0x40)) 0x80 0
    → c ≡ cond (eqb (field 4 2 (v.applied % 0x40)) 2) 0x100 0 → d ≡ cond (eqb (field 4 2 (v.applied % 0x40)) 3) 0x200 0 → e ≡ cond p 0x800 0
    → v.applied % 0x40 + a + b + c + d + e ≡ status_of s
unfolding status_of
status_as s ev ep p q r t u = rw (p, q, r, t, u, ev, ep)

pub doubled_as : (s : State) (offset : ℕ) {u w : ℕ} {v x : ℤ} → u ≡ register_at s.regs offset → v ≡ volume_of u → x ≡ v → w ≡ bits_of 16 x → w ≡ doubled s offset
unfolding doubled
doubled_as s offset e f g h = rw (h, g, f, e)

-- ---- which is read

module _ (s : State) (offset : ℕ) {r : ℕ} where
  pub read_level : is_level offset ≡ true → r ≡ (voice_at s offset).envelope.level → r ≡ read_of s offset
  unfolding read_of
  read_level a e = rw (a, e)

  pub read_repeat : is_level offset ≡ false → is_repeat offset ≡ true → r ≡ (voice_at s offset).source.repeat.0 → r ≡ read_of s offset
  unfolding read_of
  read_repeat a b e = rw (a, b, e)

  pub read_ends : offset ≡ 0x19C → r ≡ end_flags s.voices 0 16 → r ≡ read_of s offset
  unfolding read_of
  read_ends e f = rw (e, f)

  pub read_more_ends : offset ≡ 0x19E → r ≡ end_flags s.voices 16 8 → r ≡ read_of s offset
  unfolding read_of
  read_more_ends e f = rw (e, f)

  pub read_status : offset ≡ 0x1AE → r ≡ status_of s → r ≡ read_of s offset
  unfolding read_of
  read_status e f = rw (e, f)

  pub read_left : offset ≡ 0x1B8 → r ≡ doubled s 0x180 → r ≡ read_of s offset
  unfolding read_of
  read_left e f = rw (e, f)

  pub read_right : offset ≡ 0x1BA → r ≡ doubled s 0x182 → r ≡ read_of s offset
  unfolding read_of
  read_right e f = rw (e, f)

  pub read_kept : is_level offset ≡ false → is_repeat offset ≡ false → (offset ≡ 0x19C → ⊥) → (offset ≡ 0x19E → ⊥) → (offset ≡ 0x1AE → ⊥) → (offset ≡ 0x1B8 → ⊥)
      → (offset ≡ 0x1BA → ⊥) → r ≡ register_at s.regs offset → r ≡ read_of s offset
  unfolding read_of
  read_kept a b c d e f g h =
      rw (a, b, ne_eqb offset 0x19C c, ne_eqb offset 0x19E d, ne_eqb offset 0x1AE e, ne_eqb offset 0x1B8 f, ne_eqb offset 0x1BA g, h)
