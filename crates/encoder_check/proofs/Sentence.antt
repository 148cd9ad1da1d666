-- What a verdict says, with "each" and "the first" spelled out. Assumes nothing.
use mathlib.Core.Path.{◌≡◌, refl, sym}
use mathlib.Core.Bool.{Bool, true, false, cond, not, false≢true}
use mathlib.Core.List.{List}
use Prim.Native.Nat.{ℕ, ◌+◌, ◌*◌, ◌≤◌, ◌<◌}
use native.Mathlib.Decide.{dec_lt}
use native.Mathlib.Omega.{arith}
use borrow.Author.Tests.{leb-true, eqb-true, eqb-false, ltb-true, ltb-false, le-leb, eq-eqb, ne_eqb, lt-ltb, not-true}
use lib.Dec.{ltb}
use lib.ListN.{get_or}
use lib.IntN.{ℤ, pos, nat_abs, ◌-ℤ◌}
use Rattle.fixed.specs.Bits.{field}
use Rattle.fixed.specs.Tests.{all_below, first_below}
use Rattle.fixed.proofs.Bools.{and_first, and_rest, all_at, all_true, first_most, first_passes, first_stops}
use Rattle.encoder_check.specs.Check.{blocks_of, groups_of, byte_of, decoded_at, is_within, are_as_many, is_near, are_near, has_flag, is_flag_right, is_filter_known, is_yes, pairs_of, is_right, first_fault, broken_at, unpaired_at, fault_of}

module _ (originals : List ℤ) (encoded : List ℕ) (e : ℕ) where
  -- ---- "say yes exactly when"

  pub record Passes : Type 0 where
    -- "there are as many blocks as whole groups of 28 originals"
    pub count : blocks_of encoded ≡ groups_of originals
    -- "each sample decoded by 01's formula from zero history lies within E of its original": sample j of block n
    pub near : (n j : ℕ) → n < blocks_of encoded → j < 28 → nat_abs (get_or (decoded_at encoded n) j (pos 0) -ℤ get_or originals (n * 28 + j) (pos 0)) ≤ e
    -- "the last encoded block, and no other, has the end flag"
    pub last : (n : ℕ) → n + 1 ≡ blocks_of encoded → has_flag encoded n ≡ true
    pub others : (n : ℕ) → n + 1 < blocks_of encoded → has_flag encoded n ≡ false
    -- "no filter is 5..7"
    pub filter : (n : ℕ) → n < blocks_of encoded → field 4 3 (byte_of encoded n 0) < 5
    -- "An empty sound is a no"
    pub some : 0 < blocks_of encoded

  pub yes_passes : is_yes originals encoded e ≡ true → Passes
  unfolding is_yes is_within
  yes_passes t =
      let n = blocks_of encoded in
      let t₁ = and_rest (are_as_many originals encoded) _ t in
      let t₂ = and_rest (all_below n (are_near originals encoded e)) _ t₁ in
      let t₃ = and_rest (all_below n (is_flag_right encoded)) _ t₂ in
      let nears = and_first (all_below n (are_near originals encoded e)) _ t₁ in
      let flags = and_first (all_below n (is_flag_right encoded)) _ t₂ in
      let filters = and_first (all_below n (is_filter_known encoded)) _ t₃ in
      let z = eqb-false n 0 (not-true _ (and_rest (all_below n (is_filter_known encoded)) _ t₃)) in
      record {
        count = eqb-true n (groups_of originals) (and_first (are_as_many originals encoded) _ t);
        near = λ m j l k. leb-true _ e (all_at (is_near e (decoded_at encoded m) originals (m * 28)) 28 j (all_at (are_near originals encoded e) n m nears l) k);
        last = λ m q. last_has (has_flag encoded m) (eq-eqb (m + 1) n q) (all_at (is_flag_right encoded) n m flags (omega arith));
        others = λ m l. other_lacks (has_flag encoded m) (ne_eqb (m + 1) n (λ q. omega arith)) (all_at (is_flag_right encoded) n m flags (omega arith));
        filter = λ m l. ltb-true (field 4 3 (byte_of encoded m 0)) 5 (all_at (is_filter_known encoded) n m filters l);
        some = omega arith;
      }
    where
      last_has : (b : Bool) {l : Bool} → l ≡ true → cond l b (not b) ≡ true → b ≡ true
      last_has b p q = rw p at q

      other_lacks : (b : Bool) {l : Bool} → l ≡ false → cond l b (not b) ≡ true → b ≡ false
      other_lacks b p q = not-true b (rw p at q)

  pub passes_yes : Passes → is_yes originals encoded e ≡ true
  unfolding is_yes is_within
  passes_yes p =
      let n = blocks_of encoded in
      rw (
        eq-eqb n (groups_of originals) p.count,
        all_true (are_near originals encoded e) n (λ m l. all_true (is_near e (decoded_at encoded m) originals (m * 28)) 28 (λ j k. le-leb _ e (p.near m j l k))),
        all_true (is_flag_right encoded) n (λ m l. flag m l),
        all_true (is_filter_known encoded) n (λ m l. lt-ltb (field 4 3 (byte_of encoded m 0)) 5 (p.filter m l)),
        ne_eqb n 0 (λ z. some_not z p.some),
      )
    where
      some_not : blocks_of encoded ≡ 0 → 0 < blocks_of encoded → ⊥
      some_not z s = omega arith

      flag : (m : ℕ) → m < blocks_of encoded → is_flag_right encoded m ≡ true
      flag m l =
          elim (dec_lt (m + 1) (blocks_of encoded)) [
            | yes q ↦ rw (ne_eqb (m + 1) (blocks_of encoded) (λ z. omega arith), p.others m q)
            | no q ↦ let z : m + 1 ≡ blocks_of encoded = omega arith in rw (eq-eqb (m + 1) (blocks_of encoded) z, p.last m z)
          ]

  -- ---- "A no names the first block at fault"

  block_is : (fault_of originals encoded e).block ≡ first_fault originals encoded e
  unfolding fault_of
  block_is = by (ltb (first_fault originals encoded e) (pairs_of originals encoded))
    where
      by : (b : Bool) → (cond b (broken_at originals encoded e (first_fault originals encoded e)) (unpaired_at (first_fault originals encoded e))).block ≡ first_fault originals encoded e
      by true = refl
      by false = refl

  -- no block before it is at fault
  pub first : (k : ℕ) → k < (fault_of originals encoded e).block → is_right originals encoded e k ≡ true
  unfolding first_fault
  first k l = first_passes (is_right originals encoded e) 0 (pairs_of originals encoded) k (omega arith) (rw block_is at l)

  -- it has a partner and breaks a rule, or it is the first block without a partner
  pub paired : (fault_of originals encoded e).unpaired ≡ false
      → ((fault_of originals encoded e).block < pairs_of originals encoded) × (is_right originals encoded e (fault_of originals encoded e).block ≡ false)
  unfolding fault_of first_fault
  paired u = by (ltb n (pairs_of originals encoded)) refl u
    where
      n : ℕ
      n = first_below (pairs_of originals encoded) (is_right originals encoded e)

      by : (b : Bool) → ltb n (pairs_of originals encoded) ≡ b → (cond b (broken_at originals encoded e n) (unpaired_at n)).unpaired ≡ false
          → ((cond b (broken_at originals encoded e n) (unpaired_at n)).block < pairs_of originals encoded) × (is_right originals encoded e (cond b (broken_at originals encoded e n) (unpaired_at n)).block ≡ false)
      by true t u = let l = ltb-true n (pairs_of originals encoded) t in (l, first_stops (is_right originals encoded e) 0 (pairs_of originals encoded) (omega arith))
      by false t u = absurd (false≢true (sym u))

  pub unpaired : (fault_of originals encoded e).unpaired ≡ true → (fault_of originals encoded e).block ≡ pairs_of originals encoded
  unfolding fault_of first_fault
  unpaired u = by (ltb n (pairs_of originals encoded)) refl u
    where
      n : ℕ
      n = first_below (pairs_of originals encoded) (is_right originals encoded e)

      by : (b : Bool) → ltb n (pairs_of originals encoded) ≡ b → (cond b (broken_at originals encoded e n) (unpaired_at n)).unpaired ≡ true
          → (cond b (broken_at originals encoded e n) (unpaired_at n)).block ≡ pairs_of originals encoded
      by true t u = absurd (false≢true u)
      by false t u =
          let l = ltb-false n (pairs_of originals encoded) t in
          let m = first_most (is_right originals encoded e) 0 (pairs_of originals encoded) in
          omega arith
