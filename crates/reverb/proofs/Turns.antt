-- The programs of a turn, from what the code's parts do. Assumes nothing.
use mathlib.Core.Path.{◌≡◌, refl, ◌∙◌, ap, ap₂, subst}
use mathlib.Core.Bool.{Bool, true, false, ◌||◌, not}
use mathlib.Core.List.{List, [], ◌∷◌}
use Prim.Native.Nat.{ℕ, zero, suc, ◌+◌, ◌-◌, ◌%◌, ◌≤◌, ◌<◌}
use native.Mathlib.Omega.{arith}
use lib.IntN.{ℤ, pos, negsuc, ◌+ℤ◌, ◌-ℤ◌}
use lib.ListN.{get_or}
use mir.Syntax.{w16, w32}
use mir.Val.{SFits, to_z, of_z}
use mir.Facts.{to_z-of_z}
use Rattle.fixed.specs.Range.{up, dn, In}
use Rattle.fixed.specs.Signed.{signed, modulo_of, bits_of}
use Rattle.fixed.specs.Arithmetic.{saturated, product_of}
use Rattle.fixed.proofs.Parts.{add_is, sub_parts, eq_parts}
use Rattle.fixed.proofs.Number.{Num, res_in}
use Rattle.soundram.specs.declared.ByteAddress.{ByteAddress}
use Rattle.soundram.specs.declared.Reader.{Reader}
use Rattle.soundram.specs.Address.{halfword_of}
use Rattle.soundram.specs.Memory.{reading}
use Rattle.soundram.specs.Program.{Prog, Mem, mem_of, after_read, Result, run, Does, bind, get, put, repeat}
use Rattle.soundram.proofs.Programs.{does_done, does_give, does_bind, does_yes, does_no}
use Rattle.reverb.specs.declared.Area.{Area}
use Rattle.reverb.specs.declared.Turning.{Turning}
use Rattle.reverb.specs.Reverb.{address_at, AreaIn, side_of, who_of, fetch, store, volume_at, bytes_at, reflected_of, combed_of, reflection, combs, all_pass, reflections_of, all_passes, turn_of}

-- ---- sides

pub side_right : {b : Bool} → b ≡ true → 2 ≡ side_of b
unfolding side_of
side_right e = rw e

pub side_left : {b : Bool} → b ≡ false → 0 ≡ side_of b
unfolding side_of
side_left e = rw e

pub who_right : {b : Bool} → b ≡ true → Reader.ReverbRight ≡ who_of b
unfolding who_of
who_right e = rw e

pub who_left : {b : Bool} → b ≡ false → Reader.ReverbLeft ≡ who_of b
unfolding who_of
who_left e = rw e

-- ---- addresses

pub less_none : (n : ℕ) → pos n -ℤ pos 0 ≡ pos n
less_none n = let s = sub_parts (pos n) (pos 0) in eq_parts _ _ (omega arith)

module _ (a : Area) (i : AreaIn a) (bytes back : ℕ) where
  -- where the displacement lies, from the base
  from_base : (d : ℤ) → up d + (a.base + back) ≡ a.place + bytes + dn d → pos a.place -ℤ pos a.base +ℤ (pos bytes -ℤ pos back) ≡ d
  from_base d e =
      let p = sub_parts (pos a.place) (pos a.base) in
      let q = sub_parts (pos bytes) (pos back) in
      let s = add_is (pos a.place -ℤ pos a.base) (pos bytes -ℤ pos back) in
      eq_parts _ d (omega arith)

  pub address_after : {r : ℕ} → back ≤ a.place - a.base + bytes → r ≡ (a.place - a.base + bytes - back) % (a.size - a.base)
      → record { 0 = a.base + r } ≡ address_at a (pos bytes -ℤ pos back)
  unfolding address_at modulo_of
  address_after h e = let l = i.least in rw (from_base (pos (a.place - a.base + bytes - back)) (omega arith), e)

  pub address_before : {r : ℕ} → a.place - a.base + bytes < back → r ≡ (back - (a.place - a.base + bytes) - 1) % (a.size - a.base)
      → record { 0 = a.base + (a.size - a.base - 1 - r) } ≡ address_at a (pos bytes -ℤ pos back)
  unfolding address_at modulo_of
  address_before {r} h e =
      let l = i.least in
      rw (from_base (negsuc (back - (a.place - a.base + bytes) - 1)) (omega arith), ← e, one (a.size - a.base) r)
    where
      one : (m n : ℕ) → m - 1 - n ≡ m - suc n
      one m n = omega arith

-- ---- volumes: a, b and the like are numbers as the calls have them

pub leaving_as : (regs : List ℕ) (right : Bool) (out : ℤ) {s : ℕ} {a x x' r : ℤ} → s ≡ side_of right → a ≡ out → x ≡ product_of a (volume_at regs (0x184 + s)) → x' ≡ x → r ≡ saturated x'
    → r ≡ saturated (product_of out (volume_at regs (0x184 + side_of right)))
leaving_as regs right out es ea ex ex' er = rw (er, ex', ex, ea, es)

-- a sample, scaled, as a number
abbrev pub scaled : (regs : List ℕ) (offset : ℕ) {x r : ℤ} → SFits w16 x → (r ≡ product_of (to_z w16 (of_z w16 x)) (volume_at regs offset)) × In 0x8000 0x8000 r → Num
scaled regs offset f e = res_in w32 (e.0 ∙ ap (λ (y : ℤ). product_of y (volume_at regs offset)) (to_z-of_z f)) e.1 tt

-- a sum, scaled, as a number
abbrev pub scaled_sum : (regs : List ℕ) (offset : ℕ) (x : Num) {r : ℤ} → (r ≡ product_of x.code (volume_at regs offset)) × In 0x20000 0x20000 r → Num
scaled_sum regs offset x e = res_in w32 (e.0 ∙ ap (λ (y : ℤ). product_of y (volume_at regs offset)) x.is) e.1 tt

-- ---- a second read of a halfword notices nothing new

or_twice : (a b : Bool) → ((a || b) || b) ≡ (a || b)
or_twice true b = refl
or_twice false true = refl
or_twice false false = refl

read_twice : (c : Bool) (h : ℕ) (m : Mem) → after_read c h (after_read c h m) ≡ after_read c h m
unfolding reading
read_twice c h m =
    let w = m.watch in
    ap₂ (λ (l d : Bool). mem_of m.ram m.marks (record { armed = w.armed; halfword = w.halfword; latch = l; doubt = d }))
    (or_twice w.latch _)
    (or_twice w.doubt _)

-- ---- accesses: v is the halfword as it is read

module _ (area : Area) (t : Turning) where
  pub fetch_again : (d : ℤ) {x : ℤ} {m n : Mem} → Does (fetch area t d) m x n → Does (fetch area t d) n x n
  unfolding fetch get bind run
  fetch_again d {x} {m} f =
      subst (λ (k : Mem). Does (fetch area t d) k x k) (ap (λ (r : Result ℤ). r.mem) f.ran)
      (record { ran = ap₂ (λ (a : ℤ) (k : Mem). record { answer = a; mem = k }) (ap (λ (r : Result ℤ). r.answer) f.ran) (read_twice t.counted _ m) })

  pub fetch_does : (d : ℤ) {who : Reader} {at : ByteAddress} {x : ℤ} {v : ℕ} {m n : Mem} → who ≡ who_of t.right → at ≡ address_at area d → Does (get who t.counted (halfword_of at)) m v n → x ≡ signed 16 v
      → Does (fetch area t d) m x n
  unfolding fetch
  fetch_does d {n} w a f e = does_bind _ (rw (w, a) at f) (does_give n e)

  pub fetch_here : {b : ℕ} {x : ℤ} {m n : Mem} (d : ℕ) → b ≡ d → Does (fetch area t (pos b -ℤ pos 0)) m x n → Does (fetch area t (pos d)) m x n
  fetch_here d e f = rw (less_none d) at (rw e at f)

  -- s is the side
  pub comb_does : (regs : List ℕ) (offset : ℕ) {s b : ℕ} {x : ℤ} {m n : Mem} → s ≡ side_of t.right → b ≡ bytes_at regs (offset + s) → Does (fetch area t (pos b -ℤ pos 0)) m x n
      → Does (fetch area t (pos (bytes_at regs (offset + side_of t.right)))) m x n
  comb_does regs offset es eb f = rw es at (fetch_here _ eb f)

  pub store_does : (d : ℕ) (x : ℤ) {at : ByteAddress} {v : ℕ} {y : ℤ} {m n : Mem} → t.writes ≡ true → at ≡ address_at area (pos d -ℤ pos 0) → y ≡ x → v ≡ bits_of 16 y → Does (put (halfword_of at) v) m tt n
      → Does (store area t (pos d) x) m tt n
  unfolding store
  store_does d x w a y v p = does_yes _ w (rw (a, v, y, less_none d) at p)

  pub store_not : (d x : ℤ) (m : Mem) → t.writes ≡ false → Does (store area t d x) m tt m
  unfolding store
  store_not d x m w = does_no _ w (does_done tt m)

-- ---- the offsets of two reflections, and of two all-passes

abbrev pub Pair : Type 0
Pair = ℕ × ℕ

abbrev pub pair_at : List Pair → ℕ → Pair
pair_at xs k = get_or xs k (0, 0)

abbrev pub PairIn : Pair → Type 0
PairIn p = (p.0 < 512) × (p.1 < 512)

pub two_pairs : {a b : Pair} → PairIn a → PairIn b → (k : ℕ) → PairIn (pair_at (a ∷ b ∷ []) k)
two_pairs p q zero = p
two_pairs p q (suc zero) = q
two_pairs p q (suc (suc k)) = (omega arith, omega arith)

abbrev pub Triple : Type 0
Triple = ℕ × ℕ × ℕ

abbrev pub triple_at : List Triple → ℕ → Triple
triple_at xs k = get_or xs k (0, 0, 0)

abbrev pub TripleIn : Triple → Type 0
TripleIn p = (p.0 < 512) × (p.1 < 512) × (p.2 < 512)

pub two_triples : {a b : Triple} → TripleIn a → TripleIn b → (k : ℕ) → TripleIn (triple_at (a ∷ b ∷ []) k)
two_triples p q zero = p
two_triples p q (suc zero) = q
two_triples p q (suc (suc k)) = (omega arith, omega arith, omega arith)

-- ---- the stages: a, b, c and d are what was read

module _ (regs : List ℕ) (area : Area) (t : Turning) where
  -- e is the input and x what is stored, as the calls have them
  pub reflection_does : (input : ℤ) (m d : ℕ) {e a b a' b' b'' x x' : ℤ} {m' d' : ℕ} {k l n p : Mem} → m' ≡ bytes_at regs m → d' ≡ bytes_at regs d → e ≡ input
      → Does (fetch area t (pos d' -ℤ pos 0)) k a l → Does (fetch area t (pos m' -ℤ pos 2)) l b n
      → a' ≡ a → b' ≡ b → b'' ≡ b → x ≡ reflected_of regs e a' b' b'' → x' ≡ x → Does (store area t (pos m') x') n tt p → Does (reflection regs area t input m d) k tt p
  unfolding reflection
  reflection_does input m d em ed ei f g ea eb ec ex ey s =
      let h = rw em at g in
      does_bind _ (fetch_here area t _ ed f) (does_bind _ h (does_bind _ (fetch_again area t _ h) (rw (em, ey, ex, ei, ea, eb, ec) at s)))

  pub combs_does : {a b c d a' b' c' d' x y : ℤ} {k l n o p : Mem} → Does (fetch area t (pos (bytes_at regs (0x1D8 + side_of t.right)))) k a l
      → Does (fetch area t (pos (bytes_at regs (0x1DC + side_of t.right)))) l b n → Does (fetch area t (pos (bytes_at regs (0x1E8 + side_of t.right)))) n c o
      → Does (fetch area t (pos (bytes_at regs (0x1EC + side_of t.right)))) o d p → a' ≡ a → b' ≡ b → c' ≡ c → d' ≡ d → x ≡ combed_of regs a' b' c' d' → y ≡ x
      → Does (combs regs area t) k y p
  unfolding combs
  combs_does {p} f g h i ea eb ec ed ex ey = does_bind _ f (does_bind _ g (does_bind _ h (does_bind _ i (does_give p (rw (ey, ex, ea, eb, ec, ed))))))

  -- e is what enters and x what is stored, as the calls have them
  pub all_pass_does : (v m d : ℕ) (out : ℤ) {e a b a' b' x x' x'' y y' : ℤ} {m' d' : ℕ} {k l n o : Mem} → m' ≡ bytes_at regs m → d' ≡ bytes_at regs d
      → Does (fetch area t (pos m' -ℤ pos d')) k a l → x ≡ saturated (e -ℤ product_of a' (volume_at regs v)) → e ≡ out → a' ≡ a → x' ≡ x → Does (store area t (pos m') x') l tt n
      → Does (fetch area t (pos m' -ℤ pos d')) n b o → y ≡ product_of x'' (volume_at regs v) +ℤ b' → b' ≡ b → x'' ≡ x → y' ≡ y → Does (all_pass regs area t v m d out) k y' o
  unfolding all_pass
  all_pass_does v m d out {o} em ed f ex eo ea ey s g er eb ez es =
      does_bind _ (rw (em, ed) at f) (does_bind _ (rw (em, ey, ex, eo, ea) at s) (does_bind _ (rw (em, ed) at g) (does_give o (rw (es, er, ez, ex, eo, ea, eb)))))

  -- both reflections as one after the other of a list: a pair has the registers of one, m and d; e enters
  abbrev pub reflection_at : ℤ → List Pair → ℕ → Unit {0} → Prog (Unit {0})
  reflection_at e xs k _ = reflection regs area t e (pair_at xs k).0 (pair_at xs k).1

  -- s and o are the sides
  pub reflections_does : (input : ℤ) {i e : ℤ} {s o : ℕ} {k n : Mem} → s ≡ side_of t.right → o ≡ side_of (not t.right) → i ≡ input
      → e ≡ product_of i (volume_at regs (0x1FC + s)) → Does (repeat (reflection_at e ((0x1D4 + s, 0x1E0 + s) ∷ (0x1E4 + s, 0x1F0 + o) ∷ [])) 2 tt) k tt n
      → Does (reflections_of regs area t input) k tt n
  unfolding reflections_of repeat bind
  reflections_does input es eo ei ee f = rw (ee, ei, es, eo) at f

  -- both all-passes in the same way: a triple has the registers of one, v, m and d
  abbrev pub pass_at : List Triple → ℕ → ℤ → Prog ℤ
  pass_at xs k out = all_pass regs area t (triple_at xs k).0 (triple_at xs k).1 (triple_at xs k).2 out

  pub passes_does : (out : ℤ) {a : ℤ} {s : ℕ} {k n : Mem} → s ≡ side_of t.right
      → Does (repeat (pass_at ((0x1D0, 0x1F4 + s, 0x1C0) ∷ (0x1D2, 0x1F8 + s, 0x1C2) ∷ [])) 2 out) k a n → Does (all_passes regs area t out) k a n
  unfolding all_passes repeat bind
  passes_does out es f = rw es at f

  pub turn_does : (input : ℤ) {i a b c z z' : ℤ} {k l m n : Mem} → i ≡ input → Does (reflections_of regs area t i) k tt l → Does (combs regs area t) l a m
      → Does (all_passes regs area t a) m b n → c ≡ b → z ≡ saturated (product_of c (volume_at regs (0x184 + side_of t.right))) → z' ≡ z
      → Does (turn_of regs area t input) k z' n
  unfolding turn_of
  turn_does input {n} ei f g h ec ez ey = does_bind _ (rw ei at f) (does_bind _ g (does_bind _ h (does_give n (rw (ey, ez, ec)))))
