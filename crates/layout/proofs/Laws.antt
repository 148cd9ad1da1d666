-- The laws of the layout: what a store does to the parts of a buffer, and to the state that stands in it. Assumes nothing.
use mathlib.Core.Path.{◌≡◌, refl, sym, ap, ◌∙◌}
use mathlib.Core.Bool.{Bool, true, false}
use mathlib.Core.List.{List, [], ◌∷◌, ◌++◌, map}
use Prim.Native.Nat.{ℕ, zero, suc, ◌+◌, ◌-◌, ◌*◌, ◌≤◌, ◌<◌}
use native.Mathlib.Omega.{arith}
use borrow.Author.Tests.{lt-ltb, le-ltb, eqb-true, ltb-true, ltb-false, eqb-false}
use lib.Dec.{ltb, eqb}
use lib.ListN.{length, get_or, set, length-append, length-set, length-map, get_or-append}
use lib.Seq.{get_or_at, get_or-set_same, get_or-set_other, set-set, set-get_or, ext_get_or}
use Rattle.fixed.proofs.Bools.{and_first, and_rest}
use Rattle.voice.specs.declared.Voice.{Voice}
use Rattle.voices.specs.Voices.{past_end}
use Rattle.chip.specs.State.{State, all_of, with_regs, with_voices}
use Rattle.layout.specs.Layout.{list_of, every, region, registers_at, arrays_at, waits_at, samples_at, tail_at, tail_length, place, row_of, Parts, parts_of, voice_from, state_from, state_of, is_tagged, is_row, is_tail, are_parts, is_well_formed, Formed, Holds, state_length}
use Rattle.layout.specs.Stores.{put_words, put_tail}

-- ---- lists by counting

module _ {A : Type 0} where
  pub list_length : (f : ℕ → A) (n : ℕ) → length (list_of f n) ≡ n
  unfolding list_of
  list_length f zero = refl
  list_length f (suc n) = let e = list_length f n in length-append (list_of f n) (f n ∷ []) ∙ omega arith

  pub list_at : (f : ℕ → A) (n k : ℕ) (d : A) → k < n → get_or (list_of f n) k d ≡ f k
  unfolding list_of
  list_at f zero k d h = absurd (no h)
    where
      no : k < 0 → ⊥
      no h = omega arith
  list_at f (suc n) k d h = at_or (λ g. list_at f n k d g) (ltb k n) refl
    where
      at_or : (k < n → get_or (list_of f n) k d ≡ f k) → (b : Bool) → ltb k n ≡ b → get_or (list_of f n ++ f n ∷ []) k d ≡ f k
      at_or r true e = let l = list_length f n in let g = ltb-true k n e in get_or-append (list_of f n) (f n ∷ []) d k (omega arith) ∙ r g
      at_or r false e =
          let g = ltb-false k n e in
          let q : n ≡ k = omega arith in
          get_or_at (list_of f n) (f n) [] d k (list_length f n ∙ q) ∙ ap f q

  -- two lists that agree at each place
  pub list_same : (d : A) (f g : ℕ → A) (n : ℕ) → ((k : ℕ) → k < n → g k ≡ f k) → list_of g n ≡ list_of f n
  list_same d f g n e =
      ext_get_or d (list_of g n) (list_of f n) (list_length g n ∙ sym (list_length f n))
      (λ k h. let l = list_length g n in let i : k < n = omega arith in list_at g n k d i ∙ e k i ∙ sym (list_at f n k d i))

  -- two lists that agree at each place but one
  pub list_set : (d : A) (f g : ℕ → A) (n j : ℕ) {v : A} → j < n → g j ≡ v → ((k : ℕ) → k < n → (k ≡ j → ⊥) → g k ≡ f k) → list_of g n ≡ set (list_of f n) j v
  list_set d f g n j {v} i e o =
      ext_get_or d (list_of g n) (set (list_of f n) j v) (list_length g n ∙ sym (length-set (list_of f n) j v ∙ list_length f n))
      (λ k h. let l = list_length g n in at_or k (omega arith) (eqb k j) refl)
    where
      at_or : (k : ℕ) → k < n → (b : Bool) → eqb k j ≡ b → get_or (list_of g n) k d ≡ get_or (set (list_of f n) j v) k d
      at_or k h true q =
          let l = list_length f n in
          let m = eqb-true k j q in
          list_at g n k d h ∙ ap g m ∙ e ∙ sym (ap (λ (x : ℕ). get_or (set (list_of f n) j v) x d) m ∙ get_or-set_same (list_of f n) j v d (omega arith))
      at_or k h false q =
          let ne = eqb-false k j q in
          list_at g n k d h ∙ o k h ne ∙ sym (get_or-set_other (list_of f n) j k v d ne ∙ list_at f n k d h)

-- ---- a region, a base and a length

module _ (base count : ℕ) (xs : List ℕ) where
  -- a halfword stored anywhere else
  pub region_other : (i v : ℕ) → ((k : ℕ) → k < count → i ≡ base + k → ⊥) → region base count (set xs i v) ≡ region base count xs
  unfolding region
  region_other i v o =
      list_same 0 (λ k. get_or xs (base + k) 0) (λ k. get_or (set xs i v) (base + k) 0) count
      (λ k h. get_or-set_other xs i (base + k) v 0 (λ q. o k h (sym q)))

  -- a halfword stored in it
  pub region_set : (j v : ℕ) → j < count → base + count ≤ length xs → region base count (set xs (base + j) v) ≡ set (region base count xs) j v
  unfolding region
  region_set j v h l =
      list_set 0 (λ k. get_or xs (base + k) 0) (λ k. get_or (set xs (base + j) v) (base + k) 0) count j h
      (get_or-set_same xs (base + j) v 0 (omega arith))
      (λ k i ne. get_or-set_other xs (base + j) (base + k) v 0 (λ q. ne (omega arith)))

  pub region_at : (k : ℕ) → k < count → get_or (region base count xs) k 0 ≡ get_or xs (base + k) 0
  unfolding region
  region_at k h = list_at (λ k. get_or xs (base + k) 0) count k 0 h

-- ---- the words of the voices

-- where a word stands

pub place_low : (n w : ℕ) → w < 2 → place n w ≡ arrays_at + w * 24 + n
unfolding place
place_low n w h = rw (lt-ltb w 2 h)

pub place_wait : (n w : ℕ) → 2 ≤ w → w < 4 → place n w ≡ waits_at + n * 2 + (w - 2)
unfolding place
place_wait n w g h = rw (le-ltb w 2 g, lt-ltb w 4 h)

pub place_next : (n w : ℕ) → 4 ≤ w → w < 11 → place n w ≡ arrays_at + w * 24 + n
unfolding place
place_next n w g h = let k : 2 ≤ w = omega arith in rw (le-ltb w 2 k, le-ltb w 4 g, lt-ltb w 11 h)

pub place_high : (n w : ℕ) → 11 ≤ w → place n w ≡ samples_at + n * 31 + (w - 11)
unfolding place
place_high n w h = let k : 2 ≤ w = omega arith in let l : 4 ≤ w = omega arith in rw (le-ltb w 2 k, le-ltb w 4 l, le-ltb w 11 h)

-- the four kinds of words
data Kind (n w : ℕ) : Type 0 where
  low : w < 2 → place n w ≡ arrays_at + w * 24 + n → Kind n w
  wait : 2 ≤ w → w < 4 → place n w ≡ waits_at + n * 2 + (w - 2) → Kind n w
  next : 4 ≤ w → w < 11 → place n w ≡ arrays_at + w * 24 + n → Kind n w
  high : 11 ≤ w → place n w ≡ samples_at + n * 31 + (w - 11) → Kind n w

kind : (n w : ℕ) → Kind n w
kind n w = by (ltb w 2) (ltb w 4) (ltb w 11) refl refl refl
  where
    by : (a b c : Bool) → ltb w 2 ≡ a → ltb w 4 ≡ b → ltb w 11 ≡ c → Kind n w
    by true b c p q r = let h = ltb-true w 2 p in low h (place_low n w h)
    by false true c p q r = let g = ltb-false w 2 p in let h = ltb-true w 4 q in wait g h (place_wait n w g h)
    by false false true p q r = let g = ltb-false w 4 q in let h = ltb-true w 11 r in next g h (place_next n w g h)
    by false false false p q r = let h = ltb-false w 11 r in high h (place_high n w h)

pub record Placed (n w : ℕ) : Type 0 where
  pub from : arrays_at ≤ place n w
  pub below : place n w < tail_at

pub placed : (n w : ℕ) → n < 24 → w < 42 → Placed n w
placed n w h i = by (kind n w)
  where
    by : Kind n w → Placed n w
    by (low a p) = record { from = omega arith; below = omega arith }
    by (wait a b p) = record { from = omega arith; below = omega arith }
    by (next a b p) = record { from = omega arith; below = omega arith }
    by (high a p) = record { from = omega arith; below = omega arith }

-- two words stand at two places

pub record Same (n m w v : ℕ) : Type 0 where
  pub voice : n ≡ m
  pub word : w ≡ v

pub place_same : (n m w v : ℕ) → n < 24 → m < 24 → w < 42 → v < 42 → place n w ≡ place m v → Same n m w v
place_same n m w v hn hm hw hv e = by (kind n w) (kind m v)
  where
    by : Kind n w → Kind m v → Same n m w v
    by (low a p) (low b q) = record { voice = omega arith; word = omega arith }
    by (low a p) (wait b c q) = record { voice = omega arith; word = omega arith }
    by (low a p) (next b c q) = record { voice = omega arith; word = omega arith }
    by (low a p) (high b q) = record { voice = omega arith; word = omega arith }
    by (wait a d p) (low b q) = record { voice = omega arith; word = omega arith }
    by (wait a d p) (wait b c q) = record { voice = omega arith; word = omega arith }
    by (wait a d p) (next b c q) = record { voice = omega arith; word = omega arith }
    by (wait a d p) (high b q) = record { voice = omega arith; word = omega arith }
    by (next a d p) (low b q) = record { voice = omega arith; word = omega arith }
    by (next a d p) (wait b c q) = record { voice = omega arith; word = omega arith }
    by (next a d p) (next b c q) = record { voice = omega arith; word = omega arith }
    by (next a d p) (high b q) = record { voice = omega arith; word = omega arith }
    by (high a p) (low b q) = record { voice = omega arith; word = omega arith }
    by (high a p) (wait b c q) = record { voice = omega arith; word = omega arith }
    by (high a p) (next b c q) = record { voice = omega arith; word = omega arith }
    by (high a p) (high b q) = record { voice = omega arith; word = omega arith }

abbrev pub with_part_regs : Parts → List ℕ → Parts
with_part_regs p r = record { head = p.head; regs = r; rows = p.rows; tail = p.tail }

abbrev pub with_row : Parts → ℕ → List ℕ → Parts
with_row p n r = record { head = p.head; regs = p.regs; rows = set p.rows n r; tail = p.tail }

abbrev pub with_tail : Parts → List ℕ → Parts
with_tail p t = record { head = p.head; regs = p.regs; rows = p.rows; tail = t }

module _ (xs : List ℕ) where
  pub row_at : (n w : ℕ) → w < 42 → get_or (row_of xs n) w 0 ≡ get_or xs (place n w) 0
  unfolding row_of
  row_at n w h = list_at (λ w. get_or xs (place n w) 0) 42 w 0 h

  -- a halfword stored where no word of the voice stands
  pub row_other : (i v n : ℕ) → ((w : ℕ) → w < 42 → i ≡ place n w → ⊥) → row_of (set xs i v) n ≡ row_of xs n
  unfolding row_of
  row_other i v n o =
      list_same 0 (λ w. get_or xs (place n w) 0) (λ w. get_or (set xs i v) (place n w) 0) 42
      (λ w h. get_or-set_other xs i (place n w) v 0 (λ q. o w h (sym q)))

  -- a word of the voice stored
  pub row_set : (n w v : ℕ) → n < 24 → w < 42 → length xs ≡ state_length → row_of (set xs (place n w) v) n ≡ set (row_of xs n) w v
  unfolding row_of
  row_set n w v hn hw l =
      let p = placed n w hn hw in
      list_set 0 (λ w. get_or xs (place n w) 0) (λ u. get_or (set xs (place n w) v) (place n u) 0) 42 w hw
      (get_or-set_same xs (place n w) v 0 (omega arith))
      (λ u h ne. get_or-set_other xs (place n w) (place n u) v 0 (λ q. ne (place_same n n u w hn hn h hw q).word))

  -- all voices: nowhere near them, and a word of one of them
  pub rows_other : (i v : ℕ) → ((n w : ℕ) → n < 24 → w < 42 → i ≡ place n w → ⊥) → list_of (row_of (set xs i v)) 24 ≡ list_of (row_of xs) 24
  rows_other i v o = list_same [] (row_of xs) (row_of (set xs i v)) 24 (λ n h. row_other i v n (λ w g. o n w h g))

  pub rows_set : (n w v : ℕ) → n < 24 → w < 42 → length xs ≡ state_length
      → list_of (row_of (set xs (place n w) v)) 24 ≡ set (list_of (row_of xs) 24) n (set (row_of xs n) w v)
  rows_set n w v hn hw l =
      list_set [] (row_of xs) (row_of (set xs (place n w) v)) 24 n hn (row_set n w v hn hw l)
      (λ m h ne. row_other (place n w) v m (λ u g q. ne (sym (place_same n m w u hn h hw g q).voice)))

  -- ---- the three laws of the parts: a store in the registers, in a voice, and after the voices

  pub parts_register : (i v : ℕ) → i < 256 → length xs ≡ state_length → parts_of (set xs (registers_at + i) v) ≡ with_part_regs (parts_of xs) (set (parts_of xs).regs i v)
  unfolding parts_of
  parts_register i v h l =
      rw (
        region_other 0 4 xs (registers_at + i) v (λ k g q. omega arith),
        region_set registers_at 256 xs i v h (omega arith),
        rows_other (registers_at + i) v (λ n w g e q. let p = placed n w g e in omega arith),
        region_other tail_at tail_length xs (registers_at + i) v (λ k g q. omega arith),
      )

  pub parts_word : (n w v : ℕ) → n < 24 → w < 42 → length xs ≡ state_length → parts_of (set xs (place n w) v) ≡ with_row (parts_of xs) n (set (row_of xs n) w v)
  unfolding parts_of
  parts_word n w v hn hw l =
      let p = placed n w hn hw in
      rw (
        region_other 0 4 xs (place n w) v (λ k g q. omega arith),
        region_other registers_at 256 xs (place n w) v (λ k g q. omega arith),
        rows_set n w v hn hw l,
        region_other tail_at tail_length xs (place n w) v (λ k g q. omega arith),
      )

  pub parts_tail : (j v : ℕ) → j < tail_length → length xs ≡ state_length → parts_of (set xs (tail_at + j) v) ≡ with_tail (parts_of xs) (set (parts_of xs).tail j v)
  unfolding parts_of
  parts_tail j v h l =
      rw (
        region_other 0 4 xs (tail_at + j) v (λ k g q. omega arith),
        region_other registers_at 256 xs (tail_at + j) v (λ k g q. omega arith),
        rows_other (tail_at + j) v (λ n w g e q. let p = placed n w g e in omega arith),
        region_set tail_at tail_length xs j v h (omega arith),
      )

-- ---- words of a voice, put one after another

-- k elements of a list from the first on, each f of its number
unfoldable pub set_words : (ℕ → ℕ) → ℕ → List ℕ → ℕ → List ℕ
set_words f first ws zero = ws
set_words f first ws (suc k) = set (set_words f first ws k) (first + k) (f (first + k))

-- words of a voice stored one after another: its words alone change, and in the same way

pub words_length : (f : ℕ → ℕ) (n first : ℕ) (xs : List ℕ) (k : ℕ) → length (put_words f n first xs k) ≡ length xs
unfolding put_words
words_length f n first xs zero = refl
words_length f n first xs (suc k) = length-set (put_words f n first xs k) (place n (first + k)) (f (first + k)) ∙ words_length f n first xs k

pub row_words : (f : ℕ → ℕ) (n first : ℕ) (xs : List ℕ) (k : ℕ) → n < 24 → first + k ≤ 42 → length xs ≡ state_length → row_of (put_words f n first xs k) n ≡ set_words f first (row_of xs n) k
unfolding put_words set_words
row_words f n first xs zero hn hk l = refl
row_words f n first xs (suc k) hn hk l =
    row_set (put_words f n first xs k) n (first + k) (f (first + k)) hn (omega arith) (words_length f n first xs k ∙ l)
    ∙ ap (λ (r : List ℕ). set r (first + k) (f (first + k))) (row_words f n first xs k hn (omega arith) l)

row_kept : (xs : List ℕ) (n : ℕ) → n < 24 → set (parts_of xs).rows n (row_of xs n) ≡ (parts_of xs).rows
unfolding parts_of
row_kept xs n h = rw (← list_at (row_of xs) 24 n [] h) (set-get_or (list_of (row_of xs) 24) n [])

again : (p : Parts) (n : ℕ) (r q : List ℕ) → with_row (with_row p n r) n q ≡ with_row p n q
again p n r q = rw (set-set p.rows n r q)

pub parts_words : (f : ℕ → ℕ) (n first : ℕ) (xs : List ℕ) (k : ℕ) → n < 24 → first + k ≤ 42 → length xs ≡ state_length
    → parts_of (put_words f n first xs k) ≡ with_row (parts_of xs) n (set_words f first (row_of xs n) k)
unfolding put_words set_words
parts_words f n first xs zero hn hk l = rw (row_kept xs n hn)
parts_words f n first xs (suc k) hn hk l =
    parts_word (put_words f n first xs k) n (first + k) (f (first + k)) hn (omega arith) (words_length f n first xs k ∙ l)
    ∙ rw (parts_words f n first xs k hn (omega arith) l, row_words f n first xs k hn (omega arith) l) (again (parts_of xs) n _ _)

-- ---- tests, all of which hold

pub first_of : (b : Bool) (bs : List Bool) → all_of (b ∷ bs) ≡ true → b ≡ true
unfolding all_of
first_of b bs e = and_first b (all_of bs) e

pub skip : (b : Bool) (bs : List Bool) → all_of (b ∷ bs) ≡ true → all_of bs ≡ true
unfolding all_of
skip b bs e = and_rest b (all_of bs) e

pub held : {b : Bool} (bs : List Bool) → b ≡ true → all_of bs ≡ true → all_of (b ∷ bs) ≡ true
unfolding all_of
held bs h e = rw h e

-- tests of each, and one changed
module _ {A : Type 0} (t : A → Bool) where
  pub every_set : (xs : List A) (n : ℕ) (x : A) → every t xs ≡ true → t x ≡ true → every t (set xs n x) ≡ true
  unfolding every
  every_set [] n x e h = e
  every_set (y ∷ ys) zero x e h = rw h (and_rest (t y) (every t ys) e)
  every_set (y ∷ ys) (suc n) x e h = rw (and_first (t y) (every t ys) e) (every_set ys n x (and_rest (t y) (every t ys) e) h)

  pub every_at : (xs : List A) (n : ℕ) (d : A) → every t xs ≡ true → n < length xs → t (get_or xs n d) ≡ true
  unfolding every
  every_at [] n d e h = absurd (no h)
    where
      no : n < 0 → ⊥
      no h = omega arith
  every_at (y ∷ ys) zero d e h = and_first (t y) (every t ys) e
  every_at (y ∷ ys) (suc n) d e h = every_at ys n d (and_rest (t y) (every t ys) e) (omega arith)

map_set : {A B : Type 0} (f : A → B) (xs : List A) (n : ℕ) (x : A) → map f (set xs n x) ≡ set (map f xs) n (f x)
map_set f [] n x = refl
map_set f (y ∷ ys) zero x = refl
map_set f (y ∷ ys) (suc n) x = ap (λ (l : List _). f y ∷ l) (map_set f ys n x)

-- ---- what is read

module _ (xs : List ℕ) where
  pub tagged_length : is_tagged xs ≡ true → length xs ≡ state_length
  unfolding is_tagged
  tagged_length e = eqb-true (length xs) state_length (first_of _ _ e)

  pub form_tagged : is_well_formed xs ≡ true → is_tagged xs ≡ true
  unfolding is_well_formed
  form_tagged e = and_first _ _ e

  pub form_parts : is_well_formed xs ≡ true → are_parts (parts_of xs) ≡ true
  unfolding is_well_formed
  form_parts e = and_rest (is_tagged xs) _ e

  pub form_length : is_well_formed xs ≡ true → length xs ≡ state_length
  form_length e = tagged_length (form_tagged e)

  pub formed : is_well_formed xs ≡ true → Formed xs
  formed e = record { size = form_length e; form = e }

  pub form_rows : is_well_formed xs ≡ true → every is_row (parts_of xs).rows ≡ true
  unfolding are_parts
  form_rows e = and_first _ _ (form_parts e)

  pub form_tail : is_well_formed xs ≡ true → is_tail (parts_of xs).tail ≡ true
  unfolding are_parts
  form_tail e = and_rest (every is_row (parts_of xs).rows) _ (form_parts e)

  pub form_row : (n : ℕ) → is_well_formed xs ≡ true → n < 24 → is_row (row_of xs n) ≡ true
  unfolding parts_of
  form_row n e h =
      let l = list_length (row_of xs) 24 in
      rw (list_at (row_of xs) 24 n [] h) at (every_at is_row (list_of (row_of xs) 24) n [] (form_rows e) (omega arith))

  pub register_at_lem : (i : ℕ) → i < 256 → get_or (state_of xs).regs i 0 ≡ get_or xs (registers_at + i) 0
  unfolding state_of state_from parts_of
  register_at_lem i h = region_at registers_at 256 xs i h

  pub registers_count : length (state_of xs).regs ≡ 256
  unfolding state_of state_from parts_of region
  registers_count = list_length (λ k. get_or xs (registers_at + k) 0) 256

  pub voices_count : length (state_of xs).voices ≡ 24
  unfolding state_of state_from parts_of
  voices_count = length-map (list_of (row_of xs) 24) voice_from ∙ list_length (row_of xs) 24

  pub voice_at_lem : (n : ℕ) → n < 24 → get_or (state_of xs).voices n past_end ≡ voice_from (row_of xs n)
  unfolding state_of state_from parts_of
  voice_at_lem n h =
      let l = list_length (row_of xs) 24 in
      map_at voice_from (list_of (row_of xs) 24) n [] past_end (omega arith) ∙ ap voice_from (list_at (row_of xs) 24 n [] h)
    where
      map_at : {A B : Type 0} (f : A → B) (l : List A) (n : ℕ) (d : A) (e : B) → n < length l → get_or (map f l) n e ≡ f (get_or l n d)
      map_at f [] n d e h = absurd (no h)
        where
          no : n < 0 → ⊥
          no h = omega arith
      map_at f (y ∷ ys) zero d e h = refl
      map_at f (y ∷ ys) (suc n) d e h = map_at f ys n d e (omega arith)

-- ---- work in place

pub self_holds : (xs : List ℕ) → Formed xs → Holds xs (state_of xs)
self_holds xs e = record { formed = e; state = refl }

-- what is held is one state, so that a chain of promises is one
pub holds_as : {xs : List ℕ} {s t : State} → Holds xs s → s ≡ t → Holds xs t
holds_as h e = record { formed = h.formed; state = h.state ∙ e }

pub tagged_set : (xs : List ℕ) (i v : ℕ) → is_tagged xs ≡ true → 2 ≤ i → is_tagged (set xs i v) ≡ true
unfolding is_tagged
tagged_set xs i v e h =
    rw (length-set xs i v, get_or-set_other xs i 0 v 0 (λ q. omega arith), get_or-set_other xs i 1 v 0 (λ q. omega arith)) e

pub words_tagged : (f : ℕ → ℕ) (n first : ℕ) (xs : List ℕ) (k : ℕ) → is_tagged xs ≡ true → n < 24 → first + k ≤ 42 → is_tagged (put_words f n first xs k) ≡ true
unfolding put_words
words_tagged f n first xs zero e h g = e
words_tagged f n first xs (suc k) e h g =
    let p = placed n (first + k) h (omega arith) in
    tagged_set (put_words f n first xs k) (place n (first + k)) (f (first + k)) (words_tagged f n first xs k e h (omega arith)) (omega arith)

-- a voice's words changed
pub hold_row : (xs ys : List ℕ) (n : ℕ) (r : List ℕ) → Formed xs → is_tagged ys ≡ true → parts_of ys ≡ with_row (parts_of xs) n r → is_row r ≡ true
    → Holds ys (with_voices (state_of xs) (set (state_of xs).voices n (voice_from r)))
unfolding is_well_formed are_parts state_of state_from
hold_row xs ys n r e t p h =
    record {
      formed = formed _ (rw (t, p, every_set is_row (parts_of xs).rows n r (form_rows xs e.form) h) (form_tail xs e.form));
      state = rw (p, map_set voice_from (parts_of xs).rows n r);
    }

-- a register stored
pub hold_register : (xs : List ℕ) (i v : ℕ) → Formed xs → i < 256 → Holds (set xs (registers_at + i) v) (with_regs (state_of xs) (set (state_of xs).regs i v))
unfolding is_well_formed are_parts state_of state_from
hold_register xs i v e h =
    let p = parts_register xs i v h e.size in
    record { formed = formed _ (rw (tagged_set xs (registers_at + i) v (form_tagged xs e.form) (omega arith), p, form_rows xs e.form) (form_tail xs e.form)); state = rw p }

-- halfwords after the voices stored, one after another

pub tail_length_lem : (f : ℕ → ℕ) (first : ℕ) (xs : List ℕ) (k : ℕ) → length (put_tail f first xs k) ≡ length xs
unfolding put_tail
tail_length_lem f first xs zero = refl
tail_length_lem f first xs (suc k) = length-set (put_tail f first xs k) (tail_at + (first + k)) (f (first + k)) ∙ tail_length_lem f first xs k

tail_tagged : (f : ℕ → ℕ) (first : ℕ) (xs : List ℕ) (k : ℕ) → is_tagged xs ≡ true → is_tagged (put_tail f first xs k) ≡ true
unfolding put_tail
tail_tagged f first xs zero e = e
tail_tagged f first xs (suc k) e = tagged_set (put_tail f first xs k) (tail_at + (first + k)) (f (first + k)) (tail_tagged f first xs k e) (omega arith)

parts_tails : (f : ℕ → ℕ) (first : ℕ) (xs : List ℕ) (k : ℕ) → first + k ≤ tail_length → length xs ≡ state_length
    → parts_of (put_tail f first xs k) ≡ with_tail (parts_of xs) (set_words f first (parts_of xs).tail k)
unfolding put_tail set_words
parts_tails f first xs zero h l = refl
parts_tails f first xs (suc k) h l =
    parts_tail (put_tail f first xs k) (first + k) (f (first + k)) (omega arith) (tail_length_lem f first xs k ∙ l) ∙ rw (parts_tails f first xs k (omega arith) l)

pub hold_tails : (f : ℕ → ℕ) (xs : List ℕ) (first k : ℕ) {ys : List ℕ} {s : State} → Formed xs → first + k ≤ tail_length → is_tail (set_words f first (parts_of xs).tail k) ≡ true
    → put_tail f first xs k ≡ ys → state_from (with_tail (parts_of xs) (set_words f first (parts_of xs).tail k)) ≡ s → Holds ys s
unfolding is_well_formed are_parts state_of
hold_tails f xs first k e h t p q =
    let r = parts_tails f first xs k h e.size in
    rw (← p, ← q) (record { formed = formed _ (rw (tail_tagged f first xs k (form_tagged xs e.form), r, form_rows xs e.form) t); state = rw r })

-- words of a voice stored one after another
pub hold_words : (f : ℕ → ℕ) (xs : List ℕ) (n first k : ℕ) → Formed xs → n < 24 → first + k ≤ 42 → is_row (set_words f first (row_of xs n) k) ≡ true
    → Holds (put_words f n first xs k) (with_voices (state_of xs) (set (state_of xs).voices n (voice_from (set_words f first (row_of xs n) k))))
hold_words f xs n first k e hn hk h =
    hold_row xs (put_words f n first xs k) n (set_words f first (row_of xs n) k) e (words_tagged f n first xs k (form_tagged xs e.form) hn hk) (parts_words f n first xs k hn hk e.size) h

-- of two puts in one voice the second decides
again_voice : (s : State) (n : ℕ) (v w : Voice) → with_voices (with_voices s (set s.voices n v)) (set (set s.voices n v) n w) ≡ with_voices s (set s.voices n w)
again_voice s n v w = rw (set-set s.voices n v w)

pub twice : (s t u : State) (n : ℕ) (v w : Voice) → t ≡ with_voices s (set s.voices n v) → u ≡ with_voices t (set t.voices n w) → u ≡ with_voices s (set s.voices n w)
twice s t u n v w e f = f ∙ rw e (again_voice s n v w)

-- no test of a voice reads its samples
samples_ok : (f g : ℕ → ℕ) (xs : List ℕ) (n : ℕ) → is_row (set_words g 11 (set_words f 0 (row_of xs n) 11) 31) ≡ is_row (set_words f 0 (row_of xs n) 11)
unfolding is_row set_words row_of list_of
samples_ok f g xs n = refl

-- a whole voice put: the 11 words of the arrays, then the 31 samples
pub hold_voice : (f g : ℕ → ℕ) (xs : List ℕ) (n : ℕ) {ys zs : List ℕ} → Formed xs → n < 24 → is_row (set_words f 0 (row_of xs n) 11) ≡ true
    → ys ≡ put_words f n 0 xs 11 → zs ≡ put_words g n 11 ys 31
    → Holds zs (with_voices (state_of xs) (set (state_of xs).voices n (voice_from (set_words g 11 (set_words f 0 (row_of xs n) 11) 31))))
hold_voice f g xs n {ys} {zs} e h a ey ez =
    let w = hold_words f xs n 0 11 e h (omega arith) a in
    let y = put_words f n 0 xs 11 in
    let r = row_words f n 0 xs 11 h (omega arith) e.size in
    let b : is_row (set_words g 11 (row_of y n) 31) ≡ true = rw r (samples_ok f g xs n ∙ a) in
    let z = hold_words g y n 11 31 w.formed h (omega arith) b in
    rw (ez, ey, ← r) (record { formed = z.formed; state = twice (state_of xs) (state_of y) _ n _ _ w.state z.state })
