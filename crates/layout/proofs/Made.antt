-- A fresh state made in place, as the code does it. Assumes nothing.
use mathlib.Core.Path.{◌≡◌, refl, sym, ap, ◌∙◌}
use mathlib.Core.Bool.{true}
use mathlib.Core.List.{List, [], ◌∷◌}
use Prim.Native.Nat.{ℕ, zero, suc, ◌+◌, ◌-◌, ◌%◌, ◌≤◌, ◌<◌}
use native.Mathlib.Decide.{ℕ_discrete}
use native.Mathlib.Omega.{arith}
use lib.ListN.{length, get_or, set, replicate, length-set, get_or-replicate, replicate-append-replicate}
use lib.Seq.{get_or-set_same, get_or-set_other, ext_get_or}
use Rattle.fixed.specs.Signed.{signed}
use Rattle.voice.specs.declared.Voice.{Voice}
use Rattle.voice.specs.Voice.{fresh}
use Rattle.voices.specs.Voices.{past_end}
use Rattle.chip.specs.State.{State, all_of, with_regs, with_voices, fresh_of}
use Rattle.layout.specs.Layout.{list_of, every, region, registers_at, tail_at, tail_length, tag, version, place, row_of, parts_of, low_half, high_half, state_from, state_of, is_tagged, is_row, is_tail, are_parts, is_well_formed, Formed, Holds, state_length}
use Rattle.layout.specs.Stores.{with_noise, with_voice, zeros_of, blank_of}
use Rattle.layout.proofs.Laws.{list_same, placed, formed, self_holds, holds_as, voices_count}
use Rattle.layout.proofs.Put.{wide_back}

-- ---- zeros

abbrev none : ℕ → ℕ
none k = 0

zeros : (n : ℕ) → list_of none n ≡ replicate n 0
unfolding list_of
zeros zero = refl
zeros (suc n) = let q : n + 1 ≡ suc n = omega arith in rw (zeros n) (replicate-append-replicate n 1 0 ∙ ap (λ (k : ℕ). replicate k 0) q)

-- ---- the head, and zeros after it

module _ (l h : ℕ) where
  abbrev headed : List ℕ
  headed = tag ∷ version ∷ l ∷ h ∷ replicate 1280 0

  headed_at : (i : ℕ) → 4 ≤ i → i < state_length → get_or headed i 0 ≡ 0
  headed_at i g e = let q : i ≡ suc (suc (suc (suc (i - 4)))) = omega arith in rw q (get_or-replicate 1280 (i - 4) 0 0 (omega arith))

  zero_region : (base count : ℕ) → 4 ≤ base → base + count ≤ state_length → region base count headed ≡ replicate count 0
  unfolding region
  zero_region base count g e = list_same 0 none (λ k. get_or headed (base + k) 0) count (λ k i. headed_at (base + k) (omega arith) (omega arith)) ∙ zeros count

  zero_row : (n : ℕ) → n < 24 → row_of headed n ≡ replicate 42 0
  unfolding row_of
  zero_row n g = list_same 0 none (λ w. get_or headed (place n w) 0) 42 (λ w i. let p = placed n w g i in headed_at (place n w) (omega arith) (omega arith)) ∙ zeros 42

  head_region : region 0 4 headed ≡ tag ∷ version ∷ l ∷ h ∷ []
  unfolding region list_of
  head_region = refl

  headed_parts : parts_of headed ≡ record { head = tag ∷ version ∷ l ∷ h ∷ []; regs = replicate 256 0; rows = list_of (λ _. replicate 42 0) 24; tail = replicate tail_length 0 }
  unfolding parts_of
  headed_parts =
      rw (
        head_region,
        zero_region registers_at 256 (omega arith) (omega arith),
        list_same [] (λ _. replicate 42 0) (row_of headed) 24 zero_row,
        zero_region tail_at tail_length (omega arith) (omega arith),
      )

  headed_formed : is_well_formed headed ≡ true
  unfolding is_well_formed is_tagged all_of are_parts every list_of is_row is_tail
  headed_formed = rw headed_parts

  headed_state : (size : ℕ) → l ≡ low_half size → h ≡ high_half size → state_of headed ≡ with_voices (blank_of size) (state_of headed).voices
  unfolding state_of state_from fresh_of signed
  headed_state size el eh = rw (headed_parts, el, eh, wide_back size)

pub begun : (xs : List ℕ) (size : ℕ) {l h : ℕ} → xs ≡ zeros_of state_length → l ≡ low_half size → h ≡ high_half size
    → Holds (set (set (set (set xs 0 tag) 1 version) 2 l) 3 h) (with_voices (blank_of size) (state_of (set (set (set (set xs 0 tag) 1 version) 2 l) 3 h)).voices)
unfolding zeros_of
begun xs size {l} {h} e el eh = rw e (record { formed = formed (headed l h) (headed_formed l h); state = headed_state l h size el eh })

-- ---- the voices, one after the other

unfoldable pub first_fresh : List Voice → ℕ → List Voice
first_fresh vs zero = vs
first_fresh vs (suc n) = set (first_fresh vs n) n fresh

first_length : (vs : List Voice) (n : ℕ) → length (first_fresh vs n) ≡ length vs
unfolding first_fresh
first_length vs zero = refl
first_length vs (suc n) = length-set (first_fresh vs n) n fresh ∙ first_length vs n

first_at : (vs : List Voice) (n k : ℕ) → n ≤ length vs → k < n → get_or (first_fresh vs n) k past_end ≡ fresh
unfolding first_fresh
first_at vs zero k l h = absurd (omega arith)
first_at vs (suc n) k l h =
    elim (ℕ_discrete k n) [
      | yes q ↦ let e = first_length vs n in rw q (get_or-set_same (first_fresh vs n) n fresh past_end (omega arith))
      | no q ↦ get_or-set_other (first_fresh vs n) n k fresh past_end q ∙ first_at vs n k (omega arith) (omega arith)
    ]

first_all : (vs : List Voice) → length vs ≡ 24 → first_fresh vs 24 ≡ replicate 24 fresh
first_all vs l =
    ext_get_or past_end (first_fresh vs 24) (replicate 24 fresh) (first_length vs 24 ∙ l)
    (λ k h. let e = first_length vs 24 in let i : k < 24 = omega arith in first_at vs 24 k (omega arith) i ∙ sym (get_or-replicate 24 k fresh past_end i))

module _ (xs : List ℕ) where
  abbrev pub fresh_to : ℕ → State
  fresh_to n = with_voices (state_of xs) (first_fresh (state_of xs).voices n)

  pub fresh_none : Formed xs → Holds xs (fresh_to 0)
  unfolding first_fresh
  fresh_none e = self_holds xs e

  pub fresh_more : (n : ℕ) {ys zs : List ℕ} {v : Voice} → Holds ys (fresh_to n) → v ≡ fresh → Holds zs (with_voice (state_of ys) n v) → Holds zs (fresh_to (n + 1))
  unfolding first_fresh
  fresh_more n h e g = let q : n + 1 ≡ suc n = omega arith in rw q (holds_as g (rw (h.state, e)))

  pub fresh_end : (n : ℕ) {ys : List ℕ} → Holds ys (fresh_to n) → n ≤ 24 → 24 ≤ n → Holds ys (with_voices (state_of xs) (replicate 24 fresh))
  fresh_end n h l g = let q : n ≡ 24 = omega arith in holds_as h (rw (q, first_all (state_of xs).voices (voices_count xs)))

pub record Aligned (v : Voice) : Type 0 where
  pub multiple : v.source.address.0 % 8 ≡ 0
  pub below : v.source.address.0 < 0x80000

pub fresh_aligned : {v : Voice} → v ≡ fresh → Aligned v
unfolding fresh
fresh_aligned e = rw e (record { multiple = refl; below = omega arith })

-- ---- the whole

pub fresh_made : (size : ℕ) {xs ys zs ws : List ℕ} → Holds xs (with_voices (blank_of size) (state_of xs).voices) → Holds ys (with_regs (state_of xs) (set (state_of xs).regs 0xD6 4))
    → Holds zs (with_noise (state_of ys) (record { level = 0; timer = 0x20000 })) → Holds ws (with_voices (state_of zs) (replicate 24 fresh)) → Holds ws (fresh_of size)
unfolding fresh_of
fresh_made size a b c d = holds_as d (rw (c.state, b.state, a.state))
