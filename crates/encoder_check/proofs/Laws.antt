-- Laws of the encoder check's definitions. Assumes nothing.
use mathlib.Core.Path.{◌≡◌, refl, sym, ap, ap₂, ◌∙◌}
use mathlib.Core.Bool.{Bool, true, false, cond, not, ◌&&◌, ◌||◌, beq}
use mathlib.Core.List.{List}
use Prim.Native.Nat.{ℕ, ◌+◌, ◌-◌, ◌*◌, ◌%◌, ◌≤◌, ◌<◌}
use native.Mathlib.Nat.{div-one}
use native.Mathlib.Numerals.{add-one}
use native.Mathlib.Omega.{arith}
use borrow.Author.Tests.{eqb-true, lt-ltb, le-ltb, not-true, not-false}
use lib.Dec.{eqb, ltb}
use lib.ListN.{length, drop, get_or, length-drop}
use lib.Seq.{length-take-le, get_or-take, get_or-drop, ext_get_or}
use lib.IntN.{ℤ, pos}
use Rattle.std.specs.Prelude.{Option, Some, None, Result, Ok, Err, is_some}
use Rattle.fixed.specs.Bits.{bit, field}
use Rattle.fixed.specs.Tests.{all_below, first_from, first_below}
use Rattle.fixed.proofs.Bools.{first_begin, first_more, first_fails, first_none, all_first, all_and}
use Rattle.adpcm.specs.declared.History.{History}
use Rattle.adpcm.specs.Adpcm.{block_of}
use Rattle.adpcm.proofs.Laws.{after_last}
use Rattle.encoder_check.specs.declared.Fault.{Fault}
use Rattle.encoder_check.specs.declared.NotWhole.{NotWhole}
use Rattle.encoder_check.specs.Check.{blocks_of, groups_of, bytes_of, history_of, decoded_at, are_as_many, is_within, is_near, are_near, is_flag_right, is_filter_known, is_yes, pairs_of, is_right, first_fault, found, broken_at, unpaired_at, fault_of, is_sized, verdict_of, answer_of}

-- ---- a block

-- x and y are the sample and its original as the code reads them
pub near_by : (e : ℕ) (samples originals : List ℤ) (at j : ℕ) {x y : ℤ} {r b : Bool} → r ≡ is_within e x y → r ≡ b → x ≡ get_or samples j (pos 0) → y ≡ get_or originals (at + j) (pos 0)
    → is_near e samples originals at j ≡ b
near_by e samples originals at j t f p q = rw (← p, ← q, ← t) f

pub flag_right : (flags : ℕ) (last : Bool) → beq (eqb (flags % 2) 1) last ≡ cond last (bit 0 flags) (not (bit 0 flags))
flag_right flags last = rw (div-one flags) (by (eqb (flags % 2) 1) last)
  where
    by : (a b : Bool) → beq a b ≡ cond b a (not a)
    by true true = refl
    by true false = refl
    by false true = refl
    by false false = refl

-- the block that the code copied is block n; o and p are its history as the code has it
pub samples_by : (encoded block : List ℕ) (n : ℕ) {xs : List ℤ} {o p old older : ℤ} → n < blocks_of encoded
    → (length block ≡ 16) × ((k : ℕ) → k < 16 → (get_or block k 0 ≡ get_or encoded (n * 16 + k) 0) × (get_or block k 0 < 256))
    → xs ≡ block_of block o p → o ≡ old → p ≡ older → xs ≡ block_of (bytes_of encoded n) old older
samples_by encoded block n h c x u v =
    let d = length-drop (n * 16) encoded in
    let t = length-take-le 16 (drop (n * 16) encoded) (omega arith) in
    let q = ext_get_or 0 block (bytes_of encoded n) (c.0 ∙ sym t) (λ k l. (c.1 k (omega (arith, c.0))).0 ∙ sym (get_or-take 16 (drop (n * 16) encoded) k 0 (omega (arith, c.0)) ∙ get_or-drop (n * 16) encoded k 0)) in
    x ∙ rw (q, u, v)

-- what the code finds in block n
pub judged : (originals : List ℤ) (encoded : List ℕ) (e n : ℕ) {samples : List ℤ} {sample : Option ℕ} {flag known : Bool}
    → samples ≡ decoded_at encoded n → sample ≡ found 28 (first_below 28 (is_near e samples originals (n * 28)))
    → flag ≡ is_flag_right encoded n → known ≡ ltb (field 4 3 (get_or encoded (n * 16) 0)) 5
    → record { block = n; unpaired = false; sample = sample; end_flag = not flag; filter = not known } ≡ broken_at originals encoded e n
judged originals encoded e n s t f k =
    let q : n * 16 + 0 ≡ n * 16 = omega arith in
    rw (t, s, f, k, q)

-- i or none is what the search found, which is x
pub found_at : {i x : ℕ} → i < 28 → i ≡ x → Some i ≡ found 28 x
found_at {i} l e = rw (← e, lt-ltb i 28 l)

pub found_none : {x : ℕ} → 28 ≡ x → None ≡ found 28 x
found_none e = rw (← e)

found_some : (i : ℕ) → is_some (found 28 i) ≡ ltb i 28
found_some i = by (ltb i 28)
  where
    by : (b : Bool) → is_some (cond b (Some i) None) ≡ b
    by true = refl
    by false = refl

module _ (originals : List ℤ) (encoded : List ℕ) (e : ℕ) where
  abbrev right : ℕ → Bool
  right n = is_right originals encoded e n

  broken_is : (n : ℕ) {f : Fault} {r : Bool} → f ≡ broken_at originals encoded e n → r ≡ (is_some f.sample || (f.end_flag || f.filter)) → r ≡ not (right n)
  broken_is n g t =
      t ∙ rw (g, found_some (first_below 28 (is_near e (decoded_at encoded n) originals (n * 28))), all_first (is_near e (decoded_at encoded n) originals (n * 28)) 28) (by (are_near originals encoded e n) (is_flag_right encoded n) (is_filter_known encoded n))
    where
      by : (a b c : Bool) → (not a || (not b || not c)) ≡ not (a && (b && c))
      by true true true = refl
      by true true false = refl
      by true false c = refl
      by false b c = refl

  -- ---- the search, after the blocks below n: h is their history

  pub record Searched (h : History) (n : ℕ) : Type 0 where
    pub kept : h ≡ history_of encoded n
    pub first : first_below (pairs_of originals encoded) right ≡ first_from n (pairs_of originals encoded - n) right

  abbrev history : ℤ → ℤ → History
  history old older = record { old = old; older = older }

  -- h is the default history, as the code has it
  pub searched_none : {h : History} → (h.old ≡ pos 0) × (h.older ≡ pos 0) → Searched h 0
  unfolding history_of
  searched_none d = record { kept = ap₂ history d.0 d.1; first = first_begin right (pairs_of originals encoded) }

  module _ {h : History} {n : ℕ} (s : Searched h n) where
    pub searched_samples : {xs : List ℤ} → xs ≡ block_of (bytes_of encoded n) h.old h.older → xs ≡ decoded_at encoded n
    searched_samples x = x ∙ rw s.kept

    -- f is what the code finds in block n, and r whether that is a fault
    module _ {f : Fault} {r : Bool} (l : n < pairs_of originals encoded) (g : f ≡ broken_at originals encoded e n) (t : r ≡ (is_some f.sample || (f.end_flag || f.filter))) where
      pub searched_more : {xs : List ℤ} {h' : History} → r ≡ false → xs ≡ block_of (bytes_of encoded n) h.old h.older → length xs ≡ 28
          → h' ≡ record { old = get_or xs 27 (pos 0); older = get_or xs 26 (pos 0) } → Searched h' (n + 1)
      unfolding history_of
      searched_more {xs} b x c k =
          record {
            kept = k ∙ after_last (history_of encoded n) xs 26 c ∙ rw (add-one n, ← searched_samples x);
            first = first_more right (pairs_of originals encoded) n s.first l (not-false (right n) (sym (broken_is n g t) ∙ b));
          }

      pub fault_found : r ≡ true → f ≡ fault_of originals encoded e
      unfolding fault_of first_fault
      fault_found b =
          let q = first_fails right (pairs_of originals encoded) n s.first l (not-true (right n) (sym (broken_is n g t) ∙ b)) in
          g ∙ rw (← q, lt-ltb n (pairs_of originals encoded) l)

    pub fault_none : {pairs : ℕ} → pairs ≡ pairs_of originals encoded → n ≤ pairs → pairs ≤ n → unpaired_at pairs ≡ fault_of originals encoded e
    unfolding fault_of first_fault
    fault_none p l r =
        let m = pairs_of originals encoded in
        let q = first_none right m n s.first (omega arith) (omega arith) in
        rw (p, ← q, le-ltb m m (omega arith))

  -- ---- the verdict

  faultless : (fault_of originals encoded e).unpaired ≡ all_below (pairs_of originals encoded) right
  unfolding fault_of first_fault
  faultless = rw (all_first right (pairs_of originals encoded)) (by (all_below (pairs_of originals encoded) right))
    where
      by : (b : Bool) → (cond (not b) (broken_at originals encoded e (first_below (pairs_of originals encoded) right)) (unpaired_at (first_below (pairs_of originals encoded) right))).unpaired ≡ b
      by true = refl
      by false = refl

  all_right : (n : ℕ) → all_below n right ≡ (all_below n (are_near originals encoded e) && (all_below n (is_flag_right encoded) && all_below n (is_filter_known encoded)))
  all_right n =
      all_and (are_near originals encoded e) (λ k. is_flag_right encoded k && is_filter_known encoded k) n
      ∙ ap (λ (b : Bool). all_below n (are_near originals encoded e) && b) (all_and (is_flag_right encoded) (is_filter_known encoded) n)

  -- f is the fault that the code finds
  module _ {f : Fault} (g : f ≡ fault_of originals encoded e) where
    yes_is : (are_as_many originals encoded && (f.unpaired && not (eqb (blocks_of encoded) 0))) ≡ is_yes originals encoded e
    unfolding is_yes
    yes_is = rw (g, faultless) (by (are_as_many originals encoded) refl)
      where
        regroup : (a b c d : Bool) → ((a && (b && c)) && d) ≡ (a && (b && (c && d)))
        regroup true true c d = refl
        regroup true false c d = refl
        regroup false b c d = refl

        by : (m : Bool) → are_as_many originals encoded ≡ m
            → (m && (all_below (pairs_of originals encoded) right && not (eqb (blocks_of encoded) 0)))
            ≡ (m && (all_below (blocks_of encoded) (are_near originals encoded e) && (all_below (blocks_of encoded) (is_flag_right encoded) && (all_below (blocks_of encoded) (is_filter_known encoded) && not (eqb (blocks_of encoded) 0)))))
        by true t =
            let n = blocks_of encoded in
            let m = eqb-true (blocks_of encoded) (groups_of originals) t in
            let q : pairs_of originals encoded ≡ blocks_of encoded = omega arith in
            rw (q, all_right n) (regroup (all_below n (are_near originals encoded e)) (all_below n (is_flag_right encoded)) (all_below n (is_filter_known encoded)) (not (eqb n 0)))
        by false t = refl

    module _ (s : not (is_sized originals encoded) ≡ false) where
      pub verdict_yes : (are_as_many originals encoded && (f.unpaired && not (eqb (blocks_of encoded) 0))) ≡ true → Ok None ≡ verdict_of originals encoded e
      unfolding verdict_of
      verdict_yes t = rw (not-false (is_sized originals encoded) s, ← yes_is, t)

      pub verdict_no : (are_as_many originals encoded && (f.unpaired && not (eqb (blocks_of encoded) 0))) ≡ false → Ok (Some f) ≡ verdict_of originals encoded e
      unfolding verdict_of
      verdict_no t = rw (not-false (is_sized originals encoded) s, ← yes_is, t, g)

  pub verdict_refused : not (is_sized originals encoded) ≡ true → Err (record {}) ≡ verdict_of originals encoded e
  unfolding verdict_of
  verdict_refused t = rw (not-true (is_sized originals encoded) t)

-- v is what the code's check gave, x the case that it took
pub answer_as : {v x w : Result (Option Fault) NotWhole} → v ≡ w → v ≡ x → answer_of x ≡ answer_of w
answer_as p t = ap answer_of (sym t ∙ p)
