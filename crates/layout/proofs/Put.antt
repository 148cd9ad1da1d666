-- Parts of a state put in place, as the code does it. Assumes nothing.
use mathlib.Core.Path.{◌≡◌, refl, sym, ap, ◌∙◌}
use mathlib.Core.Bool.{Bool, true, false, ◌&&◌, false≢true}
use mathlib.Core.List.{List, [], ◌∷◌}
use Prim.Native.Nat.{ℕ, suc, ◌+◌, ◌*◌, ◌-◌, ◌/◌, ◌%◌, ◌≤◌, ◌<◌}
use native.Mathlib.Omega.{arith}
use borrow.Author.Tests.{le-leb, leb-true, leb-false}
use lib.Dec.{leb}
use mir.Val.{bool_byte}
use lib.IntN.{ℤ, pos}
use lib.ListN.{get_or, set}
use lib.Seq.{ext_get_or}
use Rattle.fixed.specs.Signed.{signed, bits_of}
use Rattle.fixed.proofs.TwosComplement.{signed_bits}
use Rattle.envelope.specs.declared.Phase.{Phase}
use Rattle.envelope.specs.declared.Phase.TheVariants.{Idle, Attack, Decay, Sustain, Release, Off}
use Rattle.envelope.specs.declared.Envelope.{Envelope}
use Rattle.voice.specs.declared.Voice.{Voice}
use Rattle.voice.specs.Voice.{with_envelope, with_position}
use Rattle.voices.specs.Voices.{past_end}
use Rattle.chip.specs.State.{all_of}
use Rattle.layout.specs.Layout.{list_of, place, row_of, wide, flag, phase_of, phase_number, low_half, high_half, voice_from, state_of, is_row, Formed, Holds}
use Rattle.layout.specs.Stores.{put_words, Samples, sample_word, with_voice, with_wait, with_repeat}
use Rattle.layout.proofs.Laws.{set_words, list_length, list_at, place_low, place_wait, place_next, place_high, voice_at_lem, form_row, hold_words, hold_voice, held, skip}

-- ---- loops that put words

module _ (f : ℕ → ℕ) (n first : ℕ) (xs : List ℕ) where
  pub words_none : xs ≡ put_words f n first xs 0
  unfolding put_words
  words_none = refl

  pub words_more : (k i v : ℕ) {ys : List ℕ} → ys ≡ put_words f n first xs k → i ≡ place n (first + k) → v ≡ f (first + k) → set ys i v ≡ put_words f n first xs (k + 1)
  unfolding put_words
  words_more k i v e p q = let s : k + 1 ≡ suc k = omega arith in rw (s, e, p, q)

  pub words_end : (k m : ℕ) {ys : List ℕ} → ys ≡ put_words f n first xs k → k ≤ m → m ≤ k → ys ≡ put_words f n first xs m
  words_end k m e h g = let q : k ≡ m = omega arith in e ∙ ap (put_words f n first xs) q

pub wait_place : (n w : ℕ) → leb 2 w ≡ true → leb w 3 ≡ true → 308 + n * 2 + (w - 2) ≡ place n w
wait_place n w g h = let a = leb-true 2 w g in let b = leb-true w 3 h in rw (place_wait n w a (omega arith))

pub array_place : (n w : ℕ) → w < 11 → (leb 2 w && leb w 3) ≡ false → 260 + w * 24 + n ≡ place n w
array_place n w h e = by (leb 2 w) (leb w 3) refl refl e
  where
    by : (a b : Bool) → leb 2 w ≡ a → leb w 3 ≡ b → (a && b) ≡ false → 260 + w * 24 + n ≡ place n w
    by true true p q f = absurd (false≢true (sym f))
    by true false p q f = let k = leb-false w 3 q in rw (place_next n w (omega arith) h)
    by false b p q f = let k = leb-false 2 w p in rw (place_low n w (omega arith))

pub from_place : (n w : ℕ) {p : ℕ} → p ≡ place n w → p ≡ place n (0 + w)
from_place n w e = let q : w ≡ 0 + w = omega arith in e ∙ ap (place n) q

pub from_zero : (f : ℕ → ℕ) (w : ℕ) → f w ≡ f (0 + w)
from_zero f w = let q : w ≡ 0 + w = omega arith in ap f q

pub high_place : (n k : ℕ) → 524 + n * 31 + k ≡ place n (11 + k)
high_place n k = rw (place_high n (11 + k) (omega arith)) (omega arith)

pub sample_word_lem : (xs : List ℤ) (k : ℕ) {v : ℕ} {z : ℤ} → v ≡ bits_of 16 z → z ≡ get_or xs k (pos 0) → v ≡ sample_word xs (11 + k)
sample_word_lem xs k e f = let q : 11 + k - 11 ≡ k = omega arith in rw (q, ← f) e

-- ---- what is put is read back

pub phase_back : (p : Phase) → phase_of (phase_number p) ≡ p
unfolding phase_of
phase_back Idle = refl
phase_back Attack = refl
phase_back Decay = refl
phase_back Sustain = refl
phase_back Release = refl
phase_back Off = refl

phase_most : (p : Phase) → phase_number p ≤ 5
phase_most Idle = omega arith
phase_most Attack = omega arith
phase_most Decay = omega arith
phase_most Sustain = omega arith
phase_most Release = omega arith
phase_most Off = omega arith

pub flag_back : (b : Bool) → flag (bool_byte b) ≡ b
flag_back true = refl
flag_back false = refl

pub flag_most : (b : Bool) → bool_byte b ≤ 1
flag_most true = omega arith
flag_most false = omega arith

pub wide_back : (w : ℕ) → wide (low_half w) (high_half w) ≡ w
wide_back w = omega arith

samples_back : (zs : List ℤ) → Samples zs → list_of (λ k. signed 16 (sample_word zs (11 + k))) 31 ≡ zs
samples_back zs s =
    ext_get_or (pos 0) (list_of (λ k. signed 16 (sample_word zs (11 + k))) 31) zs (list_length (λ k. signed 16 (sample_word zs (11 + k))) 31 ∙ sym s.count)
    (λ k h.
    let l = list_length (λ k. signed 16 (sample_word zs (11 + k))) 31 in
    let i : k < 31 = omega arith in
    let q : 11 + k - 11 ≡ k = omega arith in
    let b = s.in16 k i in
    list_at (λ k. signed 16 (sample_word zs (11 + k))) 31 k (pos 0) i ∙ rw q (signed_bits 16 0x8000 (get_or zs k (pos 0)) refl (omega (arith, b.top)) b.low))

-- ---- a whole voice

-- its words as the code makes them
abbrev pub voice_word : ℕ → ℕ → ℕ → ℕ → Voice → ℕ → ℕ
voice_word p l h u v w =
    get_or
    (p ∷ v.envelope.level ∷ l ∷ h ∷ v.position.counter ∷ v.position.index ∷ u ∷ v.source.repeat.0 ∷ bool_byte v.playing.loaded ∷ v.playing.flags ∷ bool_byte v.ended ∷ []) w 0

abbrev word_of : Voice → ℕ → ℕ
word_of v = voice_word (phase_number v.envelope.phase) (low_half v.envelope.wait) (high_half v.envelope.wait) (v.source.address.0 / 8) v

module _ (xs : List ℕ) (n : ℕ) (v : Voice) where
  voice_back : Samples v.playing.samples → v.source.address.0 % 8 ≡ 0 → voice_from (set_words (sample_word v.playing.samples) 11 (set_words (word_of v) 0 (row_of xs n) 11) 31) ≡ v
  unfolding voice_from set_words row_of list_of
  voice_back s m =
      let a : v.source.address.0 / 8 * 8 ≡ v.source.address.0 = omega arith in
      rw (phase_back v.envelope.phase, wide_back v.envelope.wait, a, flag_back v.playing.loaded, flag_back v.ended, samples_back v.playing.samples s)

  words_ok : v.playing.flags ≤ 0xFF → is_row (set_words (word_of v) 0 (row_of xs n) 11) ≡ true
  unfolding is_row set_words row_of list_of all_of
  words_ok f =
      rw (le-leb (phase_number v.envelope.phase) 5 (phase_most v.envelope.phase), le-leb (bool_byte v.playing.loaded) 1 (flag_most v.playing.loaded), le-leb v.playing.flags 0xFF f, le-leb (bool_byte v.ended) 1 (flag_most v.ended))

pub voice_holds : (xs : List ℕ) (n : ℕ) (v : Voice) {p l h u : ℕ} {ys zs : List ℕ} → n < 24 → Formed xs → v.source.address.0 % 8 ≡ 0 → v.playing.flags ≤ 0xFF
    → p ≡ phase_number v.envelope.phase → l ≡ low_half v.envelope.wait → h ≡ high_half v.envelope.wait → u ≡ v.source.address.0 / 8
    → ys ≡ put_words (voice_word p l h u v) n 0 xs 11 → zs ≡ put_words (sample_word v.playing.samples) n 11 ys 31 → Samples v.playing.samples
    → Holds zs (with_voice (state_of xs) n v)
voice_holds xs n v {ys} {zs} i e m f ep el eh eu ey ez s =
    let w = hold_voice (word_of v) (sample_word v.playing.samples) xs n e i (words_ok xs n v f) (rw (ep, el, eh, eu) at ey) ez in
    rw (voice_back xs n v s m) at w

-- ---- parts of a voice

module _ (xs : List ℕ) (n : ℕ) (h : n < 24) (e : Formed xs) where
  abbrev here : Voice
  here = get_or (state_of xs).voices n past_end

  -- words put, of which a voice is made that is known
  put_as : (f : ℕ → ℕ) (first k : ℕ) {ys : List ℕ} {v : Voice} → first + k ≤ 42 → is_row (set_words f first (row_of xs n) k) ≡ true → put_words f n first xs k ≡ ys
      → voice_from (set_words f first (row_of xs n) k) ≡ v → Holds ys (with_voice (state_of xs) n v)
  put_as f first k l r p q = rw (← p, ← q) (hold_words f xs n first k e h l r)

  row : is_row (row_of xs n) ≡ true
  row = form_row xs n e.form h

  abbrev envelope_word : ℕ → ℕ → ℕ → ℕ → ℕ → ℕ
  envelope_word p l a b w = get_or (p ∷ l ∷ a ∷ b ∷ []) w 0

  envelope_row : (p l a b : ℕ) → p ≤ 5 → is_row (row_of xs n) ≡ true → is_row (set_words (envelope_word p l a b) 0 (row_of xs n) 4) ≡ true
  unfolding is_row set_words row_of list_of
  envelope_row p l a b i r = held _ (le-leb p 5 i) (skip _ _ r)

  envelope_voice : (v : Envelope) → voice_from (set_words (envelope_word (phase_number v.phase) v.level (low_half v.wait) (high_half v.wait)) 0 (row_of xs n) 4) ≡ with_envelope (voice_from (row_of xs n)) v
  unfolding voice_from set_words row_of list_of
  envelope_voice v = rw (phase_back v.phase, wide_back v.wait)

  envelope_put : (p l a b : ℕ) → put_words (envelope_word p l a b) n 0 xs 4 ≡ set (set (set (set xs (260 + n) p) (284 + n) l) (308 + n * 2) a) (308 + n * 2 + 1) b
  unfolding put_words place
  envelope_put p l a b = let q : 308 + n * 2 + 0 ≡ 308 + n * 2 = omega arith in rw q

  pub envelope_holds : (v : Envelope) {p a b : ℕ} → p ≡ phase_number v.phase → a ≡ low_half v.wait → b ≡ high_half v.wait
      → Holds (set (set (set (set xs (260 + n) p) (284 + n) v.level) (308 + n * 2) a) (308 + n * 2 + 1) b) (with_voice (state_of xs) n (with_envelope here v))
  envelope_holds v ep ea eb =
      rw (ep, ea, eb, voice_at_lem xs n h)
      (put_as (envelope_word (phase_number v.phase) v.level (low_half v.wait) (high_half v.wait)) 0 4 (omega arith)
      (envelope_row (phase_number v.phase) v.level (low_half v.wait) (high_half v.wait) (phase_most v.phase) row) (envelope_put _ _ _ _) (envelope_voice v))

  position_row : (a b : ℕ) → is_row (set_words (λ w. get_or (a ∷ b ∷ []) (w - 4) 0) 4 (row_of xs n) 2) ≡ is_row (row_of xs n)
  unfolding is_row set_words row_of list_of
  position_row a b = refl

  position_voice : (a b : ℕ) → voice_from (set_words (λ w. get_or (a ∷ b ∷ []) (w - 4) 0) 4 (row_of xs n) 2) ≡ with_position (voice_from (row_of xs n)) a b
  unfolding voice_from set_words row_of list_of
  position_voice a b = refl

  position_put : (a b : ℕ) → put_words (λ w. get_or (a ∷ b ∷ []) (w - 4) 0) n 4 xs 2 ≡ set (set xs (356 + n) a) (380 + n) b
  unfolding put_words place
  position_put a b = refl

  pub position_holds : (a b : ℕ) → Holds (set (set xs (356 + n) a) (380 + n) b) (with_voice (state_of xs) n (with_position here a b))
  position_holds a b = rw (voice_at_lem xs n h) (put_as (λ w. get_or (a ∷ b ∷ []) (w - 4) 0) 4 2 (omega arith) (position_row a b ∙ row) (position_put a b) (position_voice a b))

  wait_row : (a b : ℕ) → is_row (set_words (λ w. get_or (a ∷ b ∷ []) (w - 2) 0) 2 (row_of xs n) 2) ≡ is_row (row_of xs n)
  unfolding is_row set_words row_of list_of
  wait_row a b = refl

  wait_voice : (x : ℕ) → voice_from (set_words (λ w. get_or (low_half x ∷ high_half x ∷ []) (w - 2) 0) 2 (row_of xs n) 2) ≡ with_wait (voice_from (row_of xs n)) x
  unfolding voice_from set_words row_of list_of
  wait_voice x = rw (wide_back x)

  wait_put : (a b : ℕ) → put_words (λ w. get_or (a ∷ b ∷ []) (w - 2) 0) n 2 xs 2 ≡ set (set xs (308 + n * 2) a) (308 + n * 2 + 1) b
  unfolding put_words place
  wait_put a b = let q : 308 + n * 2 + 0 ≡ 308 + n * 2 = omega arith in rw q

  pub wait_holds : (x : ℕ) {a b : ℕ} → a ≡ low_half x → b ≡ high_half x → Holds (set (set xs (308 + n * 2) a) (308 + n * 2 + 1) b) (with_voice (state_of xs) n (with_wait here x))
  wait_holds x ea eb =
      rw (ea, eb, voice_at_lem xs n h)
      (put_as (λ w. get_or (low_half x ∷ high_half x ∷ []) (w - 2) 0) 2 2 (omega arith) (wait_row _ _ ∙ row) (wait_put _ _) (wait_voice x))

  repeat_row : (a : ℕ) → is_row (set_words (λ _. a) 7 (row_of xs n) 1) ≡ is_row (row_of xs n)
  unfolding is_row set_words row_of list_of
  repeat_row a = refl

  repeat_voice : (a : ℕ) → voice_from (set_words (λ _. a) 7 (row_of xs n) 1) ≡ with_repeat (voice_from (row_of xs n)) a
  unfolding voice_from set_words row_of list_of
  repeat_voice a = refl

  repeat_put : (a : ℕ) → put_words (λ _. a) n 7 xs 1 ≡ set xs (428 + n) a
  unfolding put_words place
  repeat_put a = refl

  pub repeat_holds : (a : ℕ) → Holds (set xs (428 + n) a) (with_voice (state_of xs) n (with_repeat here a))
  repeat_holds a = rw (voice_at_lem xs n h) (put_as (λ _. a) 7 1 (omega arith) (repeat_row a ∙ row) (repeat_put a) (repeat_voice a))
