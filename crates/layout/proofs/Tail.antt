-- What follows the voices, read and put in place as the code does it. Assumes nothing.
use mathlib.Core.Path.{◌≡◌, refl, sym, ap, ◌∙◌}
use mathlib.Core.Bool.{true, ◌&&◌}
use mathlib.Core.List.{List, [], ◌∷◌}
use Prim.Native.Nat.{ℕ, suc, ◌+◌, ◌*◌, ◌-◌, ◌/◌, ◌%◌, ◌≤◌, ◌<◌}
use native.Mathlib.Omega.{arith}
use borrow.Author.Tests.{le-leb}
use mir.Val.{bool_byte}
use lib.Dec.{eqb}
use lib.IntN.{ℤ}
use lib.ListN.{get_or, set}
use Rattle.fixed.specs.Bits.{bit}
use Rattle.fixed.specs.Range.{In}
use Rattle.fixed.specs.Signed.{signed, bits_of}
use Rattle.fixed.proofs.TwosComplement.{signed_bits}
use Rattle.noise.specs.declared.Noise.{Noise}
use Rattle.soundram.specs.declared.ByteAddress.{ByteAddress}
use Rattle.soundram.specs.declared.Watch.{Watch}
use Rattle.soundram.specs.Address.{address_of, halfword_of}
use Rattle.registers.specs.Map.{register_at}
use Rattle.chip.specs.declared.Control.{Control}
use Rattle.chip.specs.declared.Reverb.{Reverb}
use Rattle.chip.specs.State.{all_of, with_control, with_transfer, watch_of, watched_of}
use Rattle.layout.specs.Layout.{list_of, region, tail_at, tail_length, parts_of, wide, low_half, high_half, state_from, state_of, is_tail, Formed, Holds}
use Rattle.layout.specs.Stores.{put_tail, with_noise, with_place, with_rest}
use Rattle.layout.proofs.Laws.{set_words, region_at, register_at_lem, form_tail, hold_tails, with_tail, held, skip}
use Rattle.layout.proofs.Put.{flag_back, flag_most, wide_back}

-- ---- read

module _ (xs : List ℕ) where
  pub tail_at_lem : (j : ℕ) → j < tail_length → get_or (parts_of xs).tail j 0 ≡ get_or xs (tail_at + j) 0
  unfolding parts_of
  tail_at_lem j h = region_at tail_at tail_length xs j h

  pub noise_is : {t : ℕ} → t ≡ wide (get_or xs 1269 0) (get_or xs 1270 0) → record { level = get_or xs 1268 0; timer = t } ≡ (state_of xs).noise
  unfolding state_of state_from
  noise_is e = rw (e, tail_at_lem 0 (omega arith), tail_at_lem 1 (omega arith), tail_at_lem 2 (omega arith))

  pub control_is : record { applied = get_or xs 1271 0; latch = eqb (get_or xs 1272 0) 1; doubt = eqb (get_or xs 1273 0) 1 } ≡ (state_of xs).control
  unfolding state_of state_from
  control_is = rw (tail_at_lem 3 (omega arith), tail_at_lem 4 (omega arith), tail_at_lem 5 (omega arith))

  pub capture_at_lem : (state_of xs).capture ≡ get_or xs 1274 0 * 2
  unfolding state_of state_from
  capture_at_lem = rw (tail_at_lem 6 (omega arith))

  pub capture_fits : (state_of xs).capture < 0x400 → get_or xs 1274 0 * 2 < 0x10000
  capture_fits h = let e = capture_at_lem in omega arith

  pub capture_is : {r : ℕ} → r ≡ get_or xs 1274 0 * 2 → r ≡ (state_of xs).capture
  capture_is e = e ∙ sym capture_at_lem

  pub place_at : (state_of xs).reverb.place.0 ≡ wide (get_or xs 1275 0) (get_or xs 1276 0) * 2
  unfolding state_of state_from
  place_at = rw (tail_at_lem 7 (omega arith), tail_at_lem 8 (omega arith))

  pub place_fits : (state_of xs).reverb.place.0 < 0x80000 → wide (get_or xs 1275 0) (get_or xs 1276 0) * 2 < 0x80000
  place_fits h = let e = place_at in omega arith

  pub reverb_is : {a : ByteAddress} {l r : ℤ} → a ≡ record { 0 = wide (get_or xs 1275 0) (get_or xs 1276 0) * 2 } → l ≡ signed 16 (get_or xs 1278 0) → r ≡ signed 16 (get_or xs 1279 0)
      → record { place = a; right = eqb (get_or xs 1277 0) 1; held = record { left = l; right = r } } ≡ (state_of xs).reverb
  unfolding state_of state_from
  reverb_is e f g =
      rw (e, f, g, tail_at_lem 7 (omega arith), tail_at_lem 8 (omega arith), tail_at_lem 9 (omega arith), tail_at_lem 10 (omega arith), tail_at_lem 11 (omega arith))

  pub transfer_at : (state_of xs).transfer.0 ≡ wide (get_or xs 1282 0) (get_or xs 1283 0) * 2
  unfolding state_of state_from
  transfer_at = rw (tail_at_lem 14 (omega arith), tail_at_lem 15 (omega arith))

  pub transfer_fits : (state_of xs).transfer.0 < 0x80000 → wide (get_or xs 1282 0) (get_or xs 1283 0) * 2 < 0x80000
  transfer_fits h = let e = transfer_at in omega arith

  pub transfer_is : {a : ByteAddress} → a ≡ record { 0 = wide (get_or xs 1282 0) (get_or xs 1283 0) * 2 } → a ≡ (state_of xs).transfer
  unfolding state_of state_from
  transfer_is e = rw (e, tail_at_lem 14 (omega arith), tail_at_lem 15 (omega arith))

  pub tick_is : {t : ℕ} → t ≡ wide (get_or xs 1280 0) (get_or xs 1281 0) → t ≡ (state_of xs).tick
  unfolding state_of state_from
  tick_is e = rw (e, tail_at_lem 12 (omega arith), tail_at_lem 13 (omega arith))

  pub register_is : (offset : ℕ) → offset < 512 → get_or xs (4 + offset / 2) 0 ≡ register_at (state_of xs).regs offset
  unfolding register_at
  register_is offset h = sym (register_at_lem xs (offset / 2) (omega arith))

  -- s is SPUCNT, i the IRQ address's unit, a its address
  pub watch_is : {z s i : ℕ} {a : ByteAddress} {c : Control} → z ≡ (state_of xs).choices.size → s ≡ register_at (state_of xs).regs 0x1AA → i ≡ register_at (state_of xs).regs 0x1A4
      → a ≡ address_of z (record { 0 = i }) → c ≡ (state_of xs).control
      → record { armed = bit 15 s && bit 6 s; halfword = halfword_of a; latch = c.latch; doubt = c.doubt } ≡ watch_of (state_of xs)
  unfolding watch_of
  watch_is ez es ei ea ec = rw (ec, ea, ez, ei, es)

-- ---- put

module _ (xs : List ℕ) (e : Formed xs) where
  ok : is_tail (parts_of xs).tail ≡ true
  ok = form_tail xs e.form

  abbrev noise_word : ℕ → ℕ → ℕ → ℕ → ℕ
  noise_word l a b i = get_or (l ∷ a ∷ b ∷ []) i 0

  noise_tail : (l a b : ℕ) → is_tail (set_words (noise_word l a b) 0 (parts_of xs).tail 3) ≡ is_tail (parts_of xs).tail
  unfolding is_tail set_words parts_of region list_of
  noise_tail l a b = refl

  noise_state : (n : Noise) → state_from (with_tail (parts_of xs) (set_words (noise_word n.level (low_half n.timer) (high_half n.timer)) 0 (parts_of xs).tail 3)) ≡ with_noise (state_of xs) n
  unfolding state_of state_from set_words parts_of region list_of
  noise_state n = rw (wide_back n.timer)

  noise_put : (l a b : ℕ) → put_tail (noise_word l a b) 0 xs 3 ≡ set (set (set xs 1268 l) 1269 a) 1270 b
  unfolding put_tail
  noise_put l a b = refl

  pub noise_holds : (n : Noise) {a b : ℕ} → a ≡ low_half n.timer → b ≡ high_half n.timer → Holds (set (set (set xs 1268 n.level) 1269 a) 1270 b) (with_noise (state_of xs) n)
  noise_holds n ea eb =
      rw (ea, eb) (hold_tails (noise_word n.level (low_half n.timer) (high_half n.timer)) xs 0 3 e (omega arith) (noise_tail _ _ _ ∙ ok) (noise_put _ _ _) (noise_state n))

  abbrev control_word : Control → ℕ → ℕ
  control_word c i = get_or (c.applied ∷ bool_byte c.latch ∷ bool_byte c.doubt ∷ []) (i - 3) 0

  control_tail : (c : Control) → is_tail (parts_of xs).tail ≡ true → is_tail (set_words (control_word c) 3 (parts_of xs).tail 3) ≡ true
  unfolding is_tail set_words parts_of region list_of
  control_tail c t = held _ (le-leb (bool_byte c.latch) 1 (flag_most c.latch)) (held _ (le-leb (bool_byte c.doubt) 1 (flag_most c.doubt)) (skip _ _ (skip _ _ t)))

  control_state : (c : Control) → state_from (with_tail (parts_of xs) (set_words (control_word c) 3 (parts_of xs).tail 3)) ≡ with_control (state_of xs) c
  unfolding state_of state_from set_words parts_of region list_of
  control_state c = rw (flag_back c.latch, flag_back c.doubt)

  control_put : (c : Control) → put_tail (control_word c) 3 xs 3 ≡ set (set (set xs 1271 c.applied) 1272 (bool_byte c.latch)) 1273 (bool_byte c.doubt)
  unfolding put_tail
  control_put c = refl

  pub control_holds : (c : Control) → Holds (set (set (set xs 1271 c.applied) 1272 (bool_byte c.latch)) 1273 (bool_byte c.doubt)) (with_control (state_of xs) c)
  control_holds c = hold_tails (control_word c) xs 3 3 e (omega arith) (control_tail c ok) (control_put c) (control_state c)

  abbrev watch_word : Watch → ℕ → ℕ
  watch_word w i = get_or (bool_byte w.latch ∷ bool_byte w.doubt ∷ []) (i - 4) 0

  watch_tail : (w : Watch) → is_tail (parts_of xs).tail ≡ true → is_tail (set_words (watch_word w) 4 (parts_of xs).tail 2) ≡ true
  unfolding is_tail set_words parts_of region list_of
  watch_tail w t = held _ (le-leb (bool_byte w.latch) 1 (flag_most w.latch)) (held _ (le-leb (bool_byte w.doubt) 1 (flag_most w.doubt)) (skip _ _ (skip _ _ t)))

  watch_state : (w : Watch) → state_from (with_tail (parts_of xs) (set_words (watch_word w) 4 (parts_of xs).tail 2)) ≡ watched_of (state_of xs) w
  unfolding state_of state_from set_words parts_of region list_of watched_of
  watch_state w = rw (flag_back w.latch, flag_back w.doubt)

  watch_put : (w : Watch) → put_tail (watch_word w) 4 xs 2 ≡ set (set xs 1272 (bool_byte w.latch)) 1273 (bool_byte w.doubt)
  unfolding put_tail
  watch_put w = refl

  pub watch_holds : (w : Watch) → Holds (set (set xs 1272 (bool_byte w.latch)) 1273 (bool_byte w.doubt)) (watched_of (state_of xs) w)
  watch_holds w = hold_tails (watch_word w) xs 4 2 e (omega arith) (watch_tail w ok) (watch_put w) (watch_state w)

  -- two halves at a place of the tail
  abbrev halves_word : ℕ → ℕ → ℕ → ℕ
  halves_word first x i = get_or (low_half x ∷ high_half x ∷ []) (i - first) 0

  half_back : (x : ℕ) → x % 2 ≡ 0 → wide (low_half (x / 2)) (high_half (x / 2)) * 2 ≡ x
  half_back x h = omega arith

  place_tail : (x : ℕ) → is_tail (set_words (halves_word 7 x) 7 (parts_of xs).tail 2) ≡ is_tail (parts_of xs).tail
  unfolding is_tail set_words parts_of region list_of
  place_tail x = refl

  place_state : (a : ByteAddress) → a.0 % 2 ≡ 0 → state_from (with_tail (parts_of xs) (set_words (halves_word 7 (a.0 / 2)) 7 (parts_of xs).tail 2)) ≡ with_place (state_of xs) a
  unfolding state_of state_from set_words parts_of region list_of
  place_state a h = rw (half_back a.0 h)

  place_put : (x : ℕ) → put_tail (halves_word 7 x) 7 xs 2 ≡ set (set xs 1275 (low_half x)) 1276 (high_half x)
  unfolding put_tail
  place_put x = refl

  pub place_holds : (a : ByteAddress) {l h : ℕ} → a.0 % 2 ≡ 0 → l ≡ low_half (a.0 / 2) → h ≡ high_half (a.0 / 2) → Holds (set (set xs 1275 l) 1276 h) (with_place (state_of xs) a)
  place_holds a m el eh = rw (el, eh) (hold_tails (halves_word 7 (a.0 / 2)) xs 7 2 e (omega arith) (place_tail _ ∙ ok) (place_put _) (place_state a m))

  transfer_tail : (x : ℕ) → is_tail (set_words (halves_word 14 x) 14 (parts_of xs).tail 2) ≡ is_tail (parts_of xs).tail
  unfolding is_tail set_words parts_of region list_of
  transfer_tail x = refl

  transfer_state : (a : ByteAddress) → a.0 % 2 ≡ 0 → state_from (with_tail (parts_of xs) (set_words (halves_word 14 (a.0 / 2)) 14 (parts_of xs).tail 2)) ≡ with_transfer (state_of xs) a
  unfolding state_of state_from set_words parts_of region list_of
  transfer_state a h = rw (half_back a.0 h)

  transfer_put : (x : ℕ) → put_tail (halves_word 14 x) 14 xs 2 ≡ set (set xs 1282 (low_half x)) 1283 (high_half x)
  unfolding put_tail
  transfer_put x = refl

  pub transfer_holds : (a : ByteAddress) {l h : ℕ} → a.0 % 2 ≡ 0 → l ≡ low_half (a.0 / 2) → h ≡ high_half (a.0 / 2) → Holds (set (set xs 1282 l) 1283 h) (with_transfer (state_of xs) a)
  transfer_holds a m el eh = rw (el, eh) (hold_tails (halves_word 14 (a.0 / 2)) xs 14 2 e (omega arith) (transfer_tail _ ∙ ok) (transfer_put _) (transfer_state a m))

  -- what a run changes besides the voices, as the code makes it
  abbrev pub rest_word : Noise → Control → ℕ → Reverb → (ta tb pa pb hl hr ka kb : ℕ) → ℕ → ℕ
  rest_word n c p r ta tb pa pb hl hr ka kb i =
      get_or
      (n.level ∷ ta ∷ tb ∷ c.applied ∷ bool_byte c.latch ∷ bool_byte c.doubt ∷ p / 2 ∷ pa ∷ pb ∷ bool_byte r.right ∷ hl ∷ hr ∷ ka ∷ kb ∷ []) i 0

  module _ (n : Noise) (c : Control) (p : ℕ) (r : Reverb) (k : ℕ) where
    abbrev word : ℕ → ℕ
    word =
        rest_word n c p r (low_half n.timer) (high_half n.timer) (low_half (r.place.0 / 2)) (high_half (r.place.0 / 2)) (bits_of 16 r.held.left) (bits_of 16 r.held.right) (low_half k)
        (high_half k)

    rest_tail : is_tail (set_words word 0 (parts_of xs).tail 14) ≡ true
    unfolding is_tail set_words parts_of region list_of all_of
    rest_tail = rw (le-leb (bool_byte c.latch) 1 (flag_most c.latch), le-leb (bool_byte c.doubt) 1 (flag_most c.doubt), le-leb (bool_byte r.right) 1 (flag_most r.right))

    rest_state : p % 2 ≡ 0 → r.place.0 % 2 ≡ 0 → In 0x8000 0x7FFF r.held.left → In 0x8000 0x7FFF r.held.right
        → state_from (with_tail (parts_of xs) (set_words word 0 (parts_of xs).tail 14)) ≡ with_rest (state_of xs) n c p r k
    unfolding state_of state_from set_words parts_of region list_of
    rest_state hp hr il ir =
        let q : p / 2 * 2 ≡ p = omega arith in
        rw (
          wide_back n.timer,
          flag_back c.latch,
          flag_back c.doubt,
          q,
          half_back r.place.0 hr,
          flag_back r.right,
          signed_bits 16 0x8000 r.held.left refl (omega (arith, il.top)) il.low,
          signed_bits 16 0x8000 r.held.right refl (omega (arith, ir.top)) ir.low,
          wide_back k,
        )

    pub rest_holds : {ta tb pa pb hl hr ka kb : ℕ} {ys : List ℕ} → p % 2 ≡ 0 → r.place.0 % 2 ≡ 0 → In 0x8000 0x7FFF r.held.left → In 0x8000 0x7FFF r.held.right
        → ta ≡ low_half n.timer → tb ≡ high_half n.timer → pa ≡ low_half (r.place.0 / 2) → pb ≡ high_half (r.place.0 / 2) → hl ≡ bits_of 16 r.held.left → hr ≡ bits_of 16 r.held.right
        → ka ≡ low_half k → kb ≡ high_half k → ys ≡ put_tail (rest_word n c p r ta tb pa pb hl hr ka kb) 0 xs 14 → Holds ys (with_rest (state_of xs) n c p r k)
    rest_holds hp hr il ir a b d f g h i j ey =
        rw ey (rw (a, b, d, f, g, h, i, j) (hold_tails word xs 0 14 e (omega arith) rest_tail refl (rest_state hp hr il ir)))

-- ---- the loop that puts them

module _ (f : ℕ → ℕ) (xs : List ℕ) where
  pub tail_none : xs ≡ put_tail f 0 xs 0
  unfolding put_tail
  tail_none = refl

  pub tail_more : (k : ℕ) {ys : List ℕ} → ys ≡ put_tail f 0 xs k → set ys (1268 + k) (f k) ≡ put_tail f 0 xs (k + 1)
  unfolding put_tail
  tail_more k e = let s : k + 1 ≡ suc k = omega arith in let z : k ≡ 0 + k = omega arith in rw (s, e, ← z)

  pub tail_end : (k m : ℕ) {ys : List ℕ} → ys ≡ put_tail f 0 xs k → k ≤ m → m ≤ k → ys ≡ put_tail f 0 xs m
  tail_end k m e h g = let q : k ≡ m = omega arith in e ∙ ap (put_tail f 0 xs) q
