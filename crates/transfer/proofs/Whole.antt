-- A transfer that does not wrap: what its loops make, and that it does what a transfer is defined to do. Assumes nothing.
use mathlib.Core.Path.{◌≡◌, refl, sym, ap, ap₂, subst, ◌∙◌}
use mathlib.Core.Bool.{Bool, true, false, ◌||◌, ◌&&◌, not, or-false, and-true, and_assoc}
use mathlib.Core.List.{List}
use Prim.Native.Nat.{ℕ, zero, suc, ◌+◌, ◌-◌, ◌*◌, ◌/◌, ◌%◌, ◌^◌, ◌≤◌, ◌<◌}
use native.Mathlib.Decide.{dec_lt, ℕ_discrete}
use native.Mathlib.Numerals.{add-one}
use native.Mathlib.Omega.{arith}
use borrow.Author.Tests.{lt-ltb, le-ltb, le-leb, lt-leb, eq-eqb, ne_eqb}
use lib.Bits.{bit_and, bit_or}
use lib.Dec.{leb, ltb, eqb}
use lib.ListN.{length, get_or, set}
use Rattle.fixed.specs.Tests.{all_below}
use Rattle.soundram.specs.declared.ByteAddress.{ByteAddress}
use Rattle.soundram.specs.declared.Reader.{Reader}
use Rattle.soundram.specs.declared.Watch.{Watch}
use Rattle.soundram.specs.Address.{forward_of, halfword_of}
use Rattle.soundram.specs.Memory.{half, put_half, marked, mark, latched}
use Rattle.soundram.specs.Program.{Does, mem_of, get, put, repeat}
use Rattle.soundram.proofs.Addresses.{forward_small}
use Rattle.soundram.proofs.Halfwords.{put_bytes}
use Rattle.soundram.proofs.Programs.{does_give, does_bind, does_get, does_put}
use Rattle.transfer.specs.Transfer.{put_at, inward_of, get_at, outward_of}
use Rattle.transfer.specs.Whole.{stored_of, marked_from, copied_of, all_marked, passed_of}
use Rattle.transfer.proofs.Marks.{marked_run, tested_run}
use Rattle.transfer.proofs.Moves.{put_does, get_does}

-- ---- the loops: before them, and one halfword more

pub stored_none : (ram : List ℕ) (h : ℕ) (vs : List ℕ) → ram ≡ stored_of ram h vs 0
unfolding stored_of
stored_none ram h vs = refl

pub stored_more : (ram : List ℕ) (h : ℕ) (vs : List ℕ) (n : ℕ) {ram' : List ℕ} → ram' ≡ stored_of ram h vs n → get_or vs n 0 < 0x10000
    → set (set ram' ((h + n) * 2) (get_or vs n 0 % 256)) ((h + n) * 2 + 1) (get_or vs n 0 / 256 % 256) ≡ stored_of ram h vs (n + 1)
unfolding stored_of
stored_more ram h vs n e l = put_bytes _ (h + n) _ l ∙ rw (e, add-one n)

pub copied_none : (ram : List ℕ) (h : ℕ) (out : List ℕ) → out ≡ copied_of ram h out 0
unfolding copied_of
copied_none ram h out = refl

pub copied_more : (ram : List ℕ) (h : ℕ) (out : List ℕ) (n : ℕ) {out' : List ℕ} {v : ℕ} → out' ≡ copied_of ram h out n → v ≡ half ram (h + n)
    → set out' n v ≡ copied_of ram h out (n + 1)
unfolding copied_of
copied_more ram h out n e f = rw (e, f, add-one n)

pub marked_none : (marks : List ℕ) (h : ℕ) → marks ≡ marked_from marks h 0
unfolding marked_from
marked_none marks h = refl

marked_add : (marks : List ℕ) (h n m : ℕ) → marked_from (marked_from marks h n) (h + n) m ≡ marked_from marks h (n + m)
unfolding marked_from
marked_add marks h n zero = let e : n ≡ n + 0 = omega arith in ap (marked_from marks h) e
marked_add marks h n (suc m) =
    let e : suc (n + m) ≡ n + suc m = omega arith in
    let f : h + n + m ≡ h + (n + m) = omega arith in
    ap₂ mark (marked_add marks h n m) f ∙ ap (marked_from marks h) e

-- m halfwords more, whose marks lie in one byte
pub marked_more : (marks : List ℕ) (h n m : ℕ) {marks' : List ℕ} {bits : ℕ} → marks' ≡ marked_from marks h n → bits ≡ 2 ^ (m + (h + n) % 8) - 2 ^ ((h + n) % 8)
    → (h + n) % 8 + m ≤ 8 → (h + n) / 8 < length marks' → set marks' ((h + n) / 8) (bit_or (get_or marks' ((h + n) / 8) 0) bits) ≡ marked_from marks h (n + m)
marked_more marks h n m {marks'} e b l here =
    ap (λ (x : ℕ). set marks' ((h + n) / 8) (bit_or (get_or marks' ((h + n) / 8) 0) x)) b
    ∙ marked_run marks' (h + n) here m l
    ∙ ap (λ (xs : List ℕ). marked_from xs (h + n) m) e
    ∙ marked_add marks h n m

tested_add : (marks : List ℕ) (h n m : ℕ) → (all_marked marks h n && all_marked marks (h + n) m) ≡ all_marked marks h (n + m)
unfolding all_below
tested_add marks h n zero = let e : n ≡ n + 0 = omega arith in and-true (all_marked marks h n) ∙ ap (all_marked marks h) e
tested_add marks h n (suc m) =
    let e : suc (n + m) ≡ n + suc m = omega arith in
    let f : h + n + m ≡ h + (n + m) = omega arith in
    sym (and_assoc (all_marked marks h n) (all_marked marks (h + n) m) (marked marks (h + n + m)))
    ∙ ap₂ (λ (x : Bool) (y : ℕ). x && marked marks y) (tested_add marks h n m) f
    ∙ ap (all_marked marks h) e

pub tested_more : (marks : List ℕ) (h n m : ℕ) {ok : Bool} {bits : ℕ} → ok ≡ all_marked marks h n → bits ≡ 2 ^ (m + (h + n) % 8) - 2 ^ ((h + n) % 8)
    → (h + n) % 8 + m ≤ 8 → (ok && eqb (bit_and (get_or marks ((h + n) / 8) 0) bits) bits) ≡ all_marked marks h (n + m)
tested_more marks h n m {ok} e b l =
    ap₂ (λ (x : Bool) (y : ℕ). x && eqb (bit_and (get_or marks ((h + n) / 8) 0) y) y) e b
    ∙ ap (λ (x : Bool). all_marked marks h n && x) (tested_run marks (h + n) m l)
    ∙ tested_add marks h n m

-- ---- the watch

within_more : (h n x : ℕ) → ((leb h x && ltb x (h + n)) || eqb x (h + n)) ≡ (leb h x && ltb x (h + suc n))
within_more h n x =
    elim (ℕ_discrete x (h + n)) [
      | yes e ↦ rw (eq-eqb x (h + n) e, le-leb h x (omega arith), lt-ltb x (h + suc n) (omega arith), le-ltb x (h + n) (omega arith))
      | no e ↦
          elim (dec_lt x (h + n)) [
            | yes l ↦ rw (ne_eqb x (h + n) e, lt-ltb x (h + n) l, lt-ltb x (h + suc n) (omega arith)) (or_no (leb h x))
            | no l ↦ rw (ne_eqb x (h + n) e, le-ltb x (h + n) (omega arith), le-ltb x (h + suc n) (omega arith)) (and_no (leb h x))
          ]
    ]
  where
    or_no : (b : Bool) → ((b && true) || false) ≡ (b && true)
    or_no true = refl
    or_no false = refl

    and_no : (b : Bool) → ((b && false) || false) ≡ (b && false)
    and_no true = refl
    and_no false = refl

within_none : (h x : ℕ) → (leb h x && ltb x (h + 0)) ≡ false
within_none h x =
    elim (dec_lt x h) [
      | yes l ↦ rw (lt-leb h x l)
      | no l ↦ rw (le-leb h x (omega arith), le-ltb x (h + 0) (omega arith))
    ]

passed_none : (w : Watch) (h : ℕ) → passed_of w h 0 true ≡ w
unfolding passed_of
passed_none w h =
    ap₂ (λ (l d : Bool). record { armed = w.armed; halfword = w.halfword; latch = l; doubt = d }) (by w.latch w.armed (within_none h w.halfword)) (or-false w.doubt)
  where
    by : (l a : Bool) {b : Bool} → b ≡ false → (l || (a && b)) ≡ l
    by true a e = refl
    by false true e = e
    by false false e = refl

-- the access to one halfword more
passed_more : (w : Watch) (h n : ℕ) (s t : Bool) → passed_of w h (suc n) (s && t) ≡ record {
  armed = (passed_of w h n s).armed;
  halfword = (passed_of w h n s).halfword;
  latch = latched (passed_of w h n s) (h + n);
  doubt = (passed_of w h n s).doubt || not t;
}
unfolding passed_of
passed_more w h n s t =
    ap₂ (λ (l d : Bool). record { armed = w.armed; halfword = w.halfword; latch = l; doubt = d })
    (by w.latch w.armed (leb h w.halfword && ltb w.halfword (h + n)) (eqb w.halfword (h + n)) (within_more h n w.halfword))
    (doubts w.doubt s t)
  where
    by : (l a b c : Bool) {d : Bool} → (b || c) ≡ d → (l || (a && d)) ≡ ((l || (a && b)) || (a && c))
    by true a b c e = refl
    by false true b c e = sym e
    by false false b c e = refl

    doubts : (d s t : Bool) → (d || not (s && t)) ≡ ((d || not s) || not t)
    doubts true s t = refl
    doubts false true t = refl
    doubts false false t = refl

-- ---- the transfer

abbrev further : ByteAddress → ℕ → ByteAddress
further a n = record { 0 = a.0 + n * 2 }

further_none : (a : ByteAddress) → further a 0 ≡ a
further_none a = let e : a.0 + 0 * 2 ≡ a.0 = omega arith in ap (λ (x : ℕ). record { 0 = x }) e

further_more : (size : ℕ) (a : ByteAddress) (n : ℕ) → a.0 + suc n * 2 < size → further a (suc n) ≡ forward_of size (further a n) 2
further_more size a n l =
    let e : a.0 + suc n * 2 ≡ a.0 + n * 2 + 2 = omega arith in
    ap (λ (x : ℕ). record { 0 = x }) e ∙ forward_small size (further a n) 2 (omega arith)

further_halfword : (a : ByteAddress) (n : ℕ) → halfword_of a + n ≡ halfword_of (further a n)
further_halfword a n = omega arith

module _ (ram marks : List ℕ) (w : Watch) (h n : ℕ) {x : ℕ} (e : h + n ≡ x) where
  put_next : (v : ℕ) → Does (put x v) (mem_of ram marks (passed_of w h n true)) tt (mem_of (put_half ram (h + n) v) (mark marks (h + n)) (passed_of w h (suc n) true))
  put_next v =
      subst (λ (y : ℕ). Does (put y v) (mem_of ram marks (passed_of w h n true)) tt (mem_of (put_half ram (h + n) v) (mark marks (h + n)) (passed_of w h (suc n) true))) e
      (does_put ram marks _ _ (h + n) v (passed_of w h n true) _ refl refl (passed_more w h n true true))

  get_next : (sure : Bool) → Does (get Reader.Transfer true x) (mem_of ram marks (passed_of w h n sure)) (half ram (h + n))
      (mem_of ram marks (passed_of w h (suc n) (sure && marked marks (h + n))))
  get_next sure =
      subst (λ (y : ℕ). Does (get Reader.Transfer true y) (mem_of ram marks (passed_of w h n sure)) (half ram (h + n)) (mem_of ram marks (passed_of w h (suc n) (sure && marked marks (h + n))))) e
      (does_get ram marks Reader.Transfer true _ (h + n) _ (passed_of w h n sure) _ refl refl (passed_more w h n sure (marked marks (h + n))))

module _ (size : ℕ) (a : ByteAddress) (ram marks : List ℕ) (w : Watch) where
  inward_whole : (vs : List ℕ) (n : ℕ) → a.0 + n * 2 < size → Does (repeat (put_at size vs) n a) (mem_of ram marks w) (further a n)
      (mem_of (stored_of ram (halfword_of a) vs n) (marked_from marks (halfword_of a) n) (passed_of w (halfword_of a) n true))
  unfolding repeat stored_of marked_from
  inward_whole vs zero l = rw (passed_none w (halfword_of a)) (does_give _ (further_none a))
  inward_whole vs (suc n) l =
      does_bind (λ t. put_at size vs n t) (inward_whole vs n (omega arith))
      (put_does size (get_or vs n 0) (further a n) (put_next _ _ w (halfword_of a) n (further_halfword a n) (get_or vs n 0)) (further_more size a n l))

  pub inward_does : (vs : List ℕ) {ram' marks' : List ℕ} {w' : Watch} → a.0 + length vs * 2 < size → ram' ≡ stored_of ram (halfword_of a) vs (length vs)
      → marks' ≡ marked_from marks (halfword_of a) (length vs) → w' ≡ passed_of w (halfword_of a) (length vs) true
      → Does (inward_of size a vs) (mem_of ram marks w) (further a (length vs)) (mem_of ram' marks' w')
  unfolding inward_of
  inward_does vs l r m e = rw (r, m, e) (inward_whole vs (length vs) l)

  outward_whole : (out : List ℕ) (n : ℕ) → a.0 + n * 2 < size → Does (repeat (get_at size) n (record { address = a; buffer = out })) (mem_of ram marks w)
      (record { address = further a n; buffer = copied_of ram (halfword_of a) out n }) (mem_of ram marks (passed_of w (halfword_of a) n (all_marked marks (halfword_of a) n)))
  unfolding repeat copied_of all_below
  outward_whole out zero l = rw (passed_none w (halfword_of a)) (does_give _ (ap (λ (b : ByteAddress). record { address = b; buffer = out }) (further_none a)))
  outward_whole out (suc n) l =
      does_bind (λ t. get_at size n t) (outward_whole out n (omega arith))
      (get_does size n (further a n) _ (get_next ram marks w (halfword_of a) n (further_halfword a n) _) (further_more size a n l))

  pub outward_does : (out : List ℕ) {out' : List ℕ} {w' : Watch} {sure : Bool} → a.0 + length out * 2 < size → out' ≡ copied_of ram (halfword_of a) out (length out)
      → sure ≡ all_marked marks (halfword_of a) (length out) → w' ≡ passed_of w (halfword_of a) (length out) sure
      → Does (outward_of size a out) (mem_of ram marks w) (record { address = further a (length out); buffer = out' }) (mem_of ram marks w')
  unfolding outward_of
  outward_does out l o m e = rw (o, e, m) (outward_whole out (length out) l)
