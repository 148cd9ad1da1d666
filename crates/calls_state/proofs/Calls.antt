-- Making, reset, status, register writes and reads on a buffer, from the numbers that they give and what stands in it after them. Assumes nothing.
use mathlib.Core.Path.{◌≡◌, refl, sym, ◌∙◌}
use mathlib.Core.Bool.{Bool, true, false, not, cond}
use mathlib.Core.List.{List, [], ◌∷◌}
use Prim.Native.Nat.{ℕ}
use borrow.Author.Tests.{not-false, ne_eqb, eq-eqb}
use lib.ListN.{length}
use Rattle.soundram.specs.Address.{Sized}
use Rattle.soundram.specs.Calls.{still}
use Rattle.registers.specs.Offsets.{listed, read_only, undocumented, not_written, not_read}
use Rattle.chip.specs.State.{State, fresh_of, size_ok}
use Rattle.chip.proofs.Tests.{ok_sized}
use Rattle.layout.specs.Layout.{state_length, state_of, is_state, Formed, Holds, Halfwords}
use Rattle.layout.proofs.Laws.{self_holds}
use Rattle.layout.proofs.Encoding.{holds_buffer}
use Rattle.layout.proofs.Ranges.{state_formed}
use Rattle.chip.specs.Registers.{write_of, read_of}
use Rattle.spu.specs.Step.{Call, write, read, reset, status, Answer, written, value, made, looked, Test, test, first_of, outside, number_of, refused_of, accepted_of}
use Rattle.spu.proofs.Range.{passed_first, passed_rest, accepted_listed}
use Rattle.spu.proofs.Numbers.{here, later, none}
use Rattle.calls.specs.Kept.{tested_of, number_in, KeepsStill, make_of}
use Rattle.calls.proofs.Kept.{state_ok_lem, accepted_state, accepted_number, kept_refused, kept_still, tested_more, tested_on}

-- ---- numbers. n is the code's number of the state

module _ (xs : List ℕ) (ts : List Test) {n : ℕ} (e : n ≡ tested_of xs (outside (is_state xs) ∷ [])) where
  pub no_state : (n ≡ 0 → ⊥) → n ≡ tested_of xs (outside (is_state xs) ∷ ts)
  unfolding first_of
  no_state z = tested_more xs (outside (is_state xs) ∷ []) (outside (is_state xs) ∷ ts) e z (by (not (is_state xs)))
    where
      by : (b : Bool) → n ≡ first_of (test b 2 ∷ []) → n ≡ first_of (test b 2 ∷ ts)
      by true q = q
      by false q = absurd (z q)

  good_state : {m : ℕ} → n ≡ 0 → m ≡ first_of ts → m ≡ tested_of xs (outside (is_state xs) ∷ ts)
  good_state z f = tested_on xs _ _ e z (λ q. later _ 2 _ (passed_first _ 1 _ (sym q ∙ z)) f)

-- the test of the offset, which register calls make next: b is the code's
module _ (xs : List ℕ) (offset : ℕ) (ts : List Test) (e : 0 ≡ tested_of xs (outside (is_state xs) ∷ [])) {b : Bool} (p : b ≡ listed offset) where
  pub unlisted : not b ≡ true → 3 ≡ tested_of xs (outside (is_state xs) ∷ test (not (listed offset)) 3 ∷ ts)
  unlisted f = good_state xs _ e refl (here _ 3 _ (rw (← p) f))

  pub carried : {m : ℕ} → not b ≡ false → m ≡ first_of ts → m ≡ tested_of xs (outside (is_state xs) ∷ test (not (listed offset)) 3 ∷ ts)
  carried f g = good_state xs _ e refl (later _ 3 _ (rw (← p) f) g)

-- the others of a write: c, u and d are the code's tests
module _ (offset v : ℕ) where
  abbrev write_tests : List Test
  write_tests = test (read_only offset) 4 ∷ test (undocumented offset v) 11 ∷ test (not_written offset v) 5 ∷ []

  pub write_4 : {c : Bool} → c ≡ read_only offset → c ≡ true → 4 ≡ first_of write_tests
  write_4 r g = here _ 4 _ (rw (← r) g)

  module _ {c : Bool} (r : c ≡ read_only offset) (g : c ≡ false) {u : Bool} (p : u ≡ undocumented offset v) where
    pub write_11 : u ≡ true → 11 ≡ first_of write_tests
    write_11 q = later _ 4 _ (rw (← r) g) (here _ 11 _ (rw (← p) q))

    module _ (q : u ≡ false) {d : Bool} (t : d ≡ not_written offset v) where
      pub write_5 : d ≡ true → 5 ≡ first_of write_tests
      write_5 h = later _ 4 _ (rw (← r) g) (later _ 11 _ (rw (← p) q) (here _ 5 _ (rw (← t) h)))

      pub write_0 : d ≡ false → 0 ≡ first_of write_tests
      write_0 h = later _ 4 _ (rw (← r) g) (later _ 11 _ (rw (← p) q) (later _ 5 _ (rw (← t) h) none))

-- and of a read
pub read_5 : (offset : ℕ) → offset ≡ 0x1A8 → 5 ≡ first_of (test (not_read offset) 5 ∷ [])
read_5 offset g = here _ 5 _ (eq-eqb offset 0x1A8 g)

pub read_0 : (offset : ℕ) → (offset ≡ 0x1A8 → ⊥) → 0 ≡ first_of (test (not_read offset) 5 ∷ [])
read_0 offset g = later _ 5 _ (ne_eqb offset 0x1A8 g) none

-- ---- a call whose number is the same whatever is lent

module _ (c : Call) (xs : List ℕ) (same : (ram marks : ℕ) → number_in c xs 0 0 ≡ number_in c xs ram marks) {n : ℕ} (e : n ≡ number_in c xs 0 0) where
  still_no : (n ≡ 0 → ⊥) → KeepsStill c xs (refused_of c n) xs
  still_no z ram marks = kept_refused c xs ram marks (e ∙ same (length ram) (length marks)) z

  still_yes : {a : Answer} {t : State} {ys : List ℕ} → n ≡ 0 → accepted_of c (state_of xs) ≡ still a t → Holds ys t → Halfwords ys → KeepsStill c xs a ys
  still_yes z f h w ram marks = kept_still c xs ram marks (e ∙ same (length ram) (length marks)) z f h w

  -- it leaves the buffer
  same_yes : {a : Answer} → n ≡ 0 → accepted_of c (state_of xs) ≡ still a (state_of xs) → Halfwords xs → KeepsStill c xs a xs
  same_yes z f w = still_yes z f (self_holds xs (state_formed xs (accepted_state c xs 0 0 e z))) w

-- ---- writes

module _ (xs : List ℕ) (offset v : ℕ) {n : ℕ} (e : n ≡ number_in (write offset v) xs 0 0) where
  write_same : (ram marks : ℕ) → number_in (write offset v) xs 0 0 ≡ number_in (write offset v) xs ram marks
  unfolding number_in
  write_same ram marks = refl

  pub write_no : (n ≡ 0 → ⊥) → KeepsStill (write offset v) xs (written n) xs
  unfolding refused_of
  write_no z = still_no (write offset v) xs write_same e z

  pub write_yes : {ys : List ℕ} → n ≡ 0 → Holds ys (write_of (state_of xs) offset v) → Halfwords ys → KeepsStill (write offset v) xs (written n) ys
  unfolding accepted_of
  write_yes z h w = rw z (still_yes (write offset v) xs write_same e z refl h w)

  pub write_ready : n ≡ 0 → Formed xs × Sized (state_of xs).choices.size × (listed offset ≡ true)
  write_ready z =
      let s = accepted_state (write offset v) xs 0 0 e z in
      (state_formed xs s, ok_sized (state_of xs) (state_ok_lem xs s), accepted_listed offset v (state_of xs) 0 0 (sym (accepted_number (write offset v) xs 0 0 e z)))

-- ---- reads

module _ (xs : List ℕ) (offset : ℕ) {n : ℕ} (e : n ≡ number_in (read offset) xs 0 0) where
  read_same : (ram marks : ℕ) → number_in (read offset) xs 0 0 ≡ number_in (read offset) xs ram marks
  unfolding number_in
  read_same ram marks = refl

  pub read_no : (n ≡ 0 → ⊥) → KeepsStill (read offset) xs (value n 0) xs
  unfolding refused_of
  read_no z = still_no (read offset) xs read_same e z

  pub read_yes : {r : ℕ} → n ≡ 0 → r ≡ read_of (state_of xs) offset → Halfwords xs → KeepsStill (read offset) xs (value n r) xs
  unfolding accepted_of
  read_yes z f w = rw (z, f) (same_yes (read offset) xs read_same e z refl w)

  read_listed : n ≡ 0 → listed offset ≡ true
  unfolding number_of
  read_listed z = not-false _ (passed_first _ 2 _ (passed_rest _ 1 _ (sym (accepted_number (read offset) xs 0 0 e z))))

  pub read_ready : n ≡ 0 → Formed xs × (listed offset ≡ true)
  read_ready z = (state_formed xs (accepted_state (read offset) xs 0 0 e z), read_listed z)

-- ---- status and reset, whose number is the state's

module _ (xs : List ℕ) {n : ℕ} (e : n ≡ tested_of xs (outside (is_state xs) ∷ [])) where
  status_number : n ≡ number_in status xs 0 0
  unfolding number_in
  status_number = e

  status_same : (ram marks : ℕ) → number_in status xs 0 0 ≡ number_in status xs ram marks
  unfolding number_in
  status_same ram marks = refl

  pub status_no : (n ≡ 0 → ⊥) → KeepsStill status xs (looked n false 0 0) xs
  unfolding refused_of
  status_no z = still_no status xs status_same status_number z

  pub status_yes : {d : Bool} {size tick : ℕ} → n ≡ 0 → d ≡ (state_of xs).control.doubt → size ≡ (state_of xs).choices.size → tick ≡ (state_of xs).tick → Halfwords xs → KeepsStill status xs (looked n d size tick) xs
  unfolding accepted_of
  status_yes z d s t w = rw (z, d, s, t) (same_yes status xs status_same status_number z refl w)

  reset_number : n ≡ number_in reset xs 0 0
  unfolding number_in
  reset_number = e

  reset_same : (ram marks : ℕ) → number_in reset xs 0 0 ≡ number_in reset xs ram marks
  unfolding number_in
  reset_same ram marks = refl

  pub reset_no : (n ≡ 0 → ⊥) → KeepsStill reset xs (made n) xs
  unfolding refused_of
  reset_no z = still_no reset xs reset_same reset_number z

  pub reset_yes : {size : ℕ} {ys : List ℕ} → n ≡ 0 → size ≡ (state_of xs).choices.size → Holds ys (fresh_of size) → Halfwords ys → KeepsStill reset xs (made n) ys
  unfolding accepted_of
  reset_yes z s h w = rw z (still_yes reset xs reset_same reset_number z refl (rw (← s) h) w)

-- ---- making: b is the code's test of the size

module _ (size : ℕ) (xs : List ℕ) {b : Bool} (e : b ≡ size_ok size) where
  -- what is promised of the number n and the buffer after it
  abbrev Makes : ℕ → List ℕ → Type 0
  Makes n ys = (record { number = n; state = ys } ≡ make_of size xs) × (length xs ≡ state_length → Holds ys (fresh_of (cond (size_ok size) size 0x10000)))

  module _ (l : length xs ≡ state_length → ⊥) where
    pub make_2 : b ≡ true → Makes 2 xs
    unfolding make_of first_of
    make_2 t = (rw (← e, t, ne_eqb (length xs) state_length l), λ q. absurd (l q))

    pub make_1 : b ≡ false → Makes 1 xs
    unfolding make_of first_of
    make_1 t = (rw (← e, t, ne_eqb (length xs) state_length l), λ q. absurd (l q))

  module _ (l : length xs ≡ state_length) {ys : List ℕ} where
    pub make_0 : b ≡ true → Holds ys (fresh_of size) → Halfwords ys → Makes 0 ys
    unfolding make_of first_of
    make_0 t h w = (rw (← e, t, eq-eqb (length xs) state_length l, holds_buffer h w), λ _. rw (← e, t) h)

    pub make_least : b ≡ false → Holds ys (fresh_of 0x10000) → Halfwords ys → Makes 1 ys
    unfolding make_of first_of
    make_least t h w = (rw (← e, t, eq-eqb (length xs) state_length l, holds_buffer h w), λ _. rw (← e, t) h)
