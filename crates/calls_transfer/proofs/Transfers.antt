-- Transfers on a buffer, from their numbers and what they do. Assumes nothing.
use mathlib.Core.Path.{◌≡◌, refl, sym, ap, ◌∙◌}
use mathlib.Core.Bool.{Bool, true, false, ◌&&◌, not}
use mathlib.Core.List.{List}
use Prim.Native.Nat.{ℕ, ◌%◌, ◌<◌}
use native.Mathlib.Omega.{arith}
use borrow.Author.Tests.{ltb-false}
use lib.Dec.{eqb, ltb}
use lib.ListN.{length}
use mir.Syntax.{w32}
use mir.Val.{Fits}
use Rattle.fixed.proofs.Bools.{or_rest}
use Rattle.soundram.specs.declared.ByteAddress.{ByteAddress}
use Rattle.soundram.specs.declared.Watch.{Watch}
use Rattle.soundram.specs.Program.{mem_of, Does}
use Rattle.soundram.proofs.Programs.{does_done, does_bind}
use Rattle.chip.specs.State.{State, with_transfer, watch_of, watched_of}
use Rattle.chip.proofs.Tests.{sized}
use Rattle.transfer.specs.Transfer.{inward_of, outward_of}
use Rattle.layout.specs.Layout.{state_of, is_state, Formed, Holds, Halfwords}
use Rattle.layout.proofs.Ranges.{state_formed, state_in_range}
use Rattle.spu.specs.Step.{transfer_in, transfer_out, moved, moved_out, Test, first_of, not_inward, not_outward, lent_tests, move_tests, refused_of, accepted_of, bad_count}
use Rattle.spu.proofs.Range.{passed_first, passed_rest}
use Rattle.spu.proofs.Numbers.{here, later, none}
use Rattle.calls.specs.Kept.{tested_of, number_in, Keeps}
use Rattle.calls.proofs.Kept.{kept_refused, kept_works, works_in_range, tested_all, lent_good}
use Rattle.calls_transfer.specs.declared.Moved.{Moved}

-- ---- a transfer's own tests: m is the code's test of the mode, b its test of the count

module _ {m wrong : Bool} (n : ℕ) (e : m ≡ wrong) where
  pub move_6 : m ≡ true → 6 ≡ first_of (move_tests wrong n)
  move_6 t = here _ 6 _ (sym e ∙ t)

  module _ (t : m ≡ false) {b : Bool} (f : b ≡ bad_count n) where
    pub move_7 : b ≡ true → 7 ≡ first_of (move_tests wrong n)
    move_7 u = later _ 6 _ (sym e ∙ t) (here _ 7 _ (rw (← f) u))

    pub move_0 : b ≡ false → 0 ≡ first_of (move_tests wrong n)
    move_0 u = later _ 6 _ (sym e ∙ t) (later _ 7 _ (rw (← f) u) none)

-- ---- what an accepted transfer may rely on

-- of k halfwords
pub move_fits : (xs : List ℕ) (ram marks : ℕ) (w : Bool) (k : ℕ) {n : ℕ} → n ≡ tested_of xs (lent_tests (is_state xs) (state_of xs) ram marks (move_tests w k)) → n ≡ 0 → Fits w32 k
move_fits xs ram marks w k e z =
    let h = ltb-false 32 k (or_rest (eqb k 0) (ltb 32 k) (passed_first _ 6 _ (passed_rest _ 5 _ (passed_rest _ 1 _ (passed_rest _ 0 _ (sym (tested_all xs _ e z) ∙ z)))))) in
    record { fits = omega arith }

pub record Ready (xs : List ℕ) : Type 0 where
  pub formed : Formed xs
  pub some : 0 < (state_of xs).choices.size
  pub start : (state_of xs).transfer.0 < (state_of xs).choices.size
  pub below : (state_of xs).transfer.0 < 0x80000

pub ready : (xs : List ℕ) (ram marks : ℕ) (ts : List Test) {n : ℕ} → n ≡ tested_of xs (lent_tests (is_state xs) (state_of xs) ram marks ts) → n ≡ 0 → Ready xs
ready xs ram marks ts e z =
    let g = lent_good xs ram marks ts e z in
    let i = state_in_range xs g in
    let a = i.transfer.below in
    let l = (sized _ i.size).most in
    record { formed = state_formed xs g; some = omega arith; start = a; below = omega arith }

-- ---- the address, and then what was watched, put in place

pub put_both : (xs : List ℕ) (a : ByteAddress) (w : Watch) {ys zs : List ℕ} → Holds ys (with_transfer (state_of xs) a) → Holds zs (watched_of (state_of ys) w) → Holds zs (watched_of (with_transfer (state_of xs) a) w)
put_both xs a w h g = record { formed = g.formed; state = g.state ∙ ap (λ (s : State). watched_of s w) h.state }

-- ---- c is the answer as the code makes it, v the watch before, w the watch after

abbrev refusal : ℕ → Moved
refusal n = record { number = n; irq = false; doubt = false; count = 0 }

abbrev acceptance : ℕ → Watch → Watch → Moved
acceptance k v w = record { number = 0; irq = w.latch && not v.latch; doubt = w.doubt && not v.doubt; count = k }

module _ (vs xs r m : List ℕ) {n : ℕ} (e : n ≡ tested_of xs (lent_tests (is_state xs) (state_of xs) (length r) (length m) (move_tests (not_inward (state_of xs)) (length vs)))) where
  pub in_no : {c : Moved} → (n ≡ 0 → ⊥) → c ≡ refusal n → Keeps (transfer_in vs) xs r m (moved c.number c.count) c.irq c.doubt xs r m
  unfolding number_in refused_of
  in_no z f = rw f (kept_refused (transfer_in vs) xs r m e z)

  module _ {size : ℕ} {a b : ByteAddress} {v w : Watch} {r' m' : List ℕ} (z : n ≡ 0) (es : size ≡ (state_of xs).choices.size) (ea : a ≡ (state_of xs).transfer) (ev : v ≡ watch_of (state_of xs)) (d : Does (inward_of size a vs) (mem_of r m v) b (mem_of r' m' w)) where
    pub in_even : b.0 % 2 ≡ 0
    unfolding number_in accepted_of watched_of
    in_even = (works_in_range (transfer_in vs) xs r m e z refl (does_bind _ (rw (es, ea, ev) at d) (does_done _ _))).transfer.even

    pub in_yes : {c : Moved} {ys : List ℕ} → c ≡ acceptance (length vs) v w → Holds ys (watched_of (with_transfer (state_of xs) b) w) → Halfwords ys → Keeps (transfer_in vs) xs r m (moved c.number c.count) c.irq c.doubt ys r' m'
    unfolding number_in accepted_of
    in_yes f h g = rw (f, ev) (kept_works (transfer_in vs) xs r m e z refl (does_bind _ (rw (es, ea, ev) at d) (does_done _ _)) h g)

module _ (o xs r m : List ℕ) {n : ℕ} (e : n ≡ tested_of xs (lent_tests (is_state xs) (state_of xs) (length r) (length m) (move_tests (not_outward (state_of xs)) (length o)))) where
  pub out_no : {c : Moved} → (n ≡ 0 → ⊥) → c ≡ refusal n → Keeps (transfer_out o) xs r m (moved_out c.number c.count o) c.irq c.doubt xs r m
  unfolding number_in refused_of
  out_no z f = rw f (kept_refused (transfer_out o) xs r m e z)

  module _ {size : ℕ} {a b : ByteAddress} {v w : Watch} {o' r' m' : List ℕ} (z : n ≡ 0) (es : size ≡ (state_of xs).choices.size) (ea : a ≡ (state_of xs).transfer) (ev : v ≡ watch_of (state_of xs)) (d : Does (outward_of size a o) (mem_of r m v) (record { address = b; buffer = o' }) (mem_of r' m' w)) where
    pub out_even : b.0 % 2 ≡ 0
    unfolding number_in accepted_of watched_of
    out_even = (works_in_range (transfer_out o) xs r m e z refl (does_bind _ (rw (es, ea, ev) at d) (does_done _ _))).transfer.even

    pub out_yes : {c : Moved} {ys : List ℕ} → c ≡ acceptance (length o) v w → Holds ys (watched_of (with_transfer (state_of xs) b) w) → Halfwords ys → Keeps (transfer_out o) xs r m (moved_out c.number c.count o') c.irq c.doubt ys r' m'
    unfolding number_in accepted_of
    out_yes f h g = rw (f, ev) (kept_works (transfer_out o) xs r m e z refl (does_bind _ (rw (es, ea, ev) at d) (does_done _ _)) h g)
