-- Theorems about every program: what it keeps, when it doubts, when it latches; and the laws by which a function is shown to do its
-- program. Assumes nothing.
use mathlib.Core.Path.{◌≡◌, refl, ap, ap₂, sym, subst, ◌∙◌}
use mathlib.Core.Bool.{Bool, true, false, ◌||◌, ◌&&◌, not, or-false, or_assoc}
use mathlib.Core.List.{List, [], ◌∷◌}
use Prim.Native.Nat.{ℕ, zero, suc, ◌+◌, ◌*◌, ◌≤◌, ◌<◌}
use native.Mathlib.Numerals.{add-one}
use native.Mathlib.Omega.{arith}
use lib.Dec.{eqb}
use lib.ListN.{length}
use Rattle.soundram.specs.Address.{Lent, Within}
use Rattle.soundram.specs.Memory.{half, put_half, marked, mark, latched, reading, writing}
use Rattle.soundram.specs.Program.{Prog, done, read, write, Mem, mem_of, after_read, after_write, Result, run, Does, Access, reads, writes, trace, any_unmarked, bind, get, put, branch, repeat}
use Rattle.soundram.specs.declared.ByteAddress.{ByteAddress}
use Rattle.soundram.specs.declared.Reader.{Reader}
use Rattle.soundram.specs.declared.Watch.{Watch}
use Rattle.soundram.proofs.Halfwords.{put_half_length, mark_length}

-- ---- sizes and the armed interrupt stay

pub record Kept (m n : Mem) : Type 0 where
  pub ram : length n.ram ≡ length m.ram
  pub marks : length n.marks ≡ length m.marks
  pub armed : n.watch.armed ≡ m.watch.armed
  pub halfword : n.watch.halfword ≡ m.watch.halfword

kept_trans : {m n o : Mem} → Kept m n → Kept n o → Kept m o
kept_trans k l = record { ram = l.ram ∙ k.ram; marks = l.marks ∙ k.marks; armed = l.armed ∙ k.armed; halfword = l.halfword ∙ k.halfword }

kept_read : (c : Bool) (h : ℕ) (m : Mem) → Kept m (after_read c h m)
unfolding reading
kept_read c h m = record { ram = refl; marks = refl; armed = refl; halfword = refl }

kept_write : (h v : ℕ) (m : Mem) → Kept m (after_write h v m)
unfolding writing
kept_write h v m = record { ram = put_half_length m.ram h v; marks = mark_length m.marks h; armed = refl; halfword = refl }

pub run_kept : {A : Type 0} (p : Prog A) (m : Mem) → Kept m (run p m).mem
unfolding run
run_kept (done a) m = record { ram = refl; marks = refl; armed = refl; halfword = refl }
run_kept (read who c h k) m = kept_trans (kept_read c h m) (run_kept (k (half m.ram h)) _)
run_kept (write h v p) m = kept_trans (kept_write h v m) (run_kept p _)

pub does_kept : {A : Type 0} {p : Prog A} {m n : Mem} {a : A} → Does p m a n → Kept m n
does_kept {p} {m} d = rw d.ran at (run_kept p m)

-- ---- doubt after: doubt before, or a counted read that met an unmarked halfword

none : any_unmarked [] ≡ false
unfolding any_unmarked
none = refl

pub doubt_is : {A : Type 0} (p : Prog A) (m : Mem) → (run p m).mem.watch.doubt ≡ (m.watch.doubt || any_unmarked (trace p m))
unfolding run trace any_unmarked reading writing
doubt_is (done a) m = sym (or-false m.watch.doubt)
doubt_is (read who c h k) m =
    doubt_is (k (half m.ram h)) (after_read c h m)
    ∙ or_assoc m.watch.doubt (c && not (marked m.marks h)) (any_unmarked (trace (k (half m.ram h)) (after_read c h m)))
doubt_is (write h v p) m = doubt_is p (after_write h v m)

pub sticky : {A : Type 0} (p : Prog A) (m : Mem) → m.watch.doubt ≡ true → (run p m).mem.watch.doubt ≡ true
sticky p m e = doubt_is p m ∙ ap (λ (b : Bool). b || any_unmarked (trace p m)) e

-- ---- the latch after: the latch before, or an access at the armed halfword

abbrev pub place : Access → ℕ
place (reads who c h loaded) = h
place (writes h loaded) = h

pub touches : Watch → List Access → Bool
touches w [] = false
touches w (x ∷ xs) = (w.armed && eqb w.halfword (place x)) || touches w xs

touches_kept : (v w : Watch) (xs : List Access) → v.armed ≡ w.armed → v.halfword ≡ w.halfword → touches v xs ≡ touches w xs
unfolding touches
touches_kept v w [] a h = refl
touches_kept v w (x ∷ xs) a h = ap₂ ◌||◌ (ap₂ (λ (b : Bool) (n : ℕ). b && eqb n (place x)) a h) (touches_kept v w xs a h)

pub latch_is : {A : Type 0} (p : Prog A) (m : Mem) → (run p m).mem.watch.latch ≡ (m.watch.latch || touches m.watch (trace p m))
unfolding run trace touches reading writing
latch_is (done a) m = sym (or-false m.watch.latch)
latch_is (read who c h k) m =
    let xs : List Access = trace (k (half m.ram h)) (after_read c h m) in
    latch_is (k (half m.ram h)) (after_read c h m)
    ∙ or_assoc m.watch.latch (m.watch.armed && eqb m.watch.halfword h) (touches (reading c h m.marks m.watch) xs)
    ∙ ap (λ (b : Bool). m.watch.latch || ((m.watch.armed && eqb m.watch.halfword h) || b)) (touches_kept (after_read c h m).watch m.watch xs refl refl)
latch_is (write h v p) m =
    let xs : List Access = trace p (after_write h v m) in
    latch_is p (after_write h v m)
    ∙ or_assoc m.watch.latch (m.watch.armed && eqb m.watch.halfword h) (touches (writing h m.watch) xs)
    ∙ ap (λ (b : Bool). m.watch.latch || ((m.watch.armed && eqb m.watch.halfword h) || b)) (touches_kept (after_write h v m).watch m.watch xs refl refl)

-- ---- how a function is shown to do its program

pub run_bind : {A B : Type 0} (p : Prog A) (f : A → Prog B) (m : Mem) → run (bind p f) m ≡ run (f (run p m).answer) (run p m).mem
unfolding bind run
run_bind (done a) f m = refl
run_bind (read who c h k) f m = run_bind (k (half m.ram h)) f _
run_bind (write h v p) f m = run_bind p f _

pub does_done : {A : Type 0} (a : A) (m : Mem) → Does (done a) m a m
unfolding run
does_done a m = record { ran = refl }

pub does_give : {A : Type 0} {a b : A} (m : Mem) → a ≡ b → Does (done b) m a m
does_give {a} m e = rw (← e) (does_done a m)

pub does_bind : {A B : Type 0} {p : Prog A} {m n o : Mem} {a : A} {b : B} (f : A → Prog B) → Does p m a n → Does (f a) n b o → Does (bind p f) m b o
does_bind {p} {m} f d e = record { ran = run_bind p f m ∙ ap (λ (r : Result _). run (f r.answer) r.mem) d.ran ∙ e.ran }

pub does_yes : {A : Type 0} {b : Bool} {p : Prog A} (q : Prog A) {m n : Mem} {a : A} → b ≡ true → Does p m a n → Does (branch b p q) m a n
unfolding branch
does_yes q e d = rw e d

pub does_no : {A : Type 0} {b : Bool} {q : Prog A} (p : Prog A) {m n : Mem} {a : A} → b ≡ false → Does q m a n → Does (branch b p q) m a n
unfolding branch
does_no p e d = rw e d

-- one access, of what the code finds
abbrev noticed : Watch → ℕ → Bool → Watch
noticed w h sure = record { armed = w.armed; halfword = w.halfword; latch = latched w h; doubt = w.doubt || not sure }

pub does_get : (ram marks : List ℕ) (who : Reader) (c loaded : Bool) (h v : ℕ) (w x : Watch) → v ≡ half ram h → loaded ≡ marked marks h
    → x ≡ noticed w h (not c || loaded) → Does (get who c h) (mem_of ram marks w) v (mem_of ram marks x)
unfolding get run reading
does_get ram marks who true loaded h v w x d e n = rw (n, e, d) (record { ran = refl })
does_get ram marks who false loaded h v w x d e n = rw (n, d) (record { ran = refl })

pub does_put : (ram marks ram' marks' : List ℕ) (h v : ℕ) (w x : Watch) → ram' ≡ put_half ram h v → marks' ≡ mark marks h
    → x ≡ noticed w h true → Does (put h v) (mem_of ram marks w) tt (mem_of ram' marks' x)
unfolding put run writing
does_put ram marks ram' marks' h v w x d e n = rw (n, e, d, or-false w.doubt) (record { ran = refl })

-- a loop of programs: before it, one more turn, and its end
module _ {S : Type 0} (f : ℕ → S → Prog S) where
  pub repeat_none : (s : S) (m : Mem) → Does (repeat f 0 s) m s m
  unfolding repeat
  repeat_none s m = does_done s m

  pub repeat_more : (n : ℕ) (s t u : S) {m k o : Mem} → Does (repeat f n s) m t k → Does (f n t) k u o → Does (repeat f (n + 1) s) m u o
  unfolding repeat
  repeat_more n s t u p q = rw (add-one n) (does_bind (λ x. f n x) p q)

  pub repeat_end : (n k : ℕ) (s t : S) {m o : Mem} → Does (repeat f n s) m t o → n ≤ k → k ≤ n → Does (repeat f k s) m t o
  repeat_end n k s t {m} {o} p a b = let e : n ≡ k = omega arith in subst (λ (i : ℕ). Does (repeat f i s) m t o) e p

-- straight-line code: `unfolding PROGRAM`, then `search does`
pub ruleset does = (does_done, does_yes, does_no, does_bind)

-- ---- what holds of a program's answer, whatever its reads give

pub data Always {A : Type 0} (P : A → Type 0) : Prog A → Type 0 where
  ends : {a : A} → P a → Always P (done a)
  reading_on : {who : Reader} {c : Bool} {h : ℕ} {k : ℕ → Prog A} → ((v : ℕ) → Always P (k v)) → Always P (read who c h k)
  writing_on : {h v : ℕ} {p : Prog A} → Always P p → Always P (write h v p)

pub always_run : {A : Type 0} {P : A → Type 0} {p : Prog A} → Always P p → (m : Mem) → P (run p m).answer
unfolding run
always_run (ends q) m = q
always_run (reading_on f) m = always_run (f _) _
always_run (writing_on q) m = always_run q _

pub always_does : {A : Type 0} {P : A → Type 0} {p : Prog A} {m n : Mem} {a : A} → Always P p → Does p m a n → P a
always_does {P} {m} q d = subst (λ (r : Result _). P r.answer) d.ran (always_run q m)

pub always_any : {A : Type 0} (p : Prog A) → Always (λ _. Unit {0}) p
always_any (done a) = ends tt
always_any (read who c h k) = reading_on (λ v. always_any (k v))
always_any (write h v p) = writing_on (always_any p)

pub always_bind : {A B : Type 0} {P : A → Type 0} {Q : B → Type 0} {p : Prog A} {f : A → Prog B} → Always P p → ((a : A) → P a → Always Q (f a)) → Always Q (bind p f)
unfolding bind
always_bind (ends q) g = g _ q
always_bind (reading_on k) g = reading_on (λ v. always_bind (k v) g)
always_bind (writing_on q) g = writing_on (always_bind q g)

pub always_branch : {A : Type 0} {P : A → Type 0} (b : Bool) {p q : Prog A} → (b ≡ true → Always P p) → (b ≡ false → Always P q) → Always P (branch b p q)
unfolding branch
always_branch true f g = f refl
always_branch false f g = g refl

pub always_repeat : {S : Type 0} {P : S → Type 0} (f : ℕ → S → Prog S) → ((n : ℕ) (s : S) → P s → Always P (f n s)) → (n : ℕ) (s : S) → P s → Always P (repeat f n s)
unfolding repeat
always_repeat f g zero s p = ends p
always_repeat f g (suc n) s p = always_bind (always_repeat f g n s p) (λ t q. g n t q)

-- ---- programs that write nothing: RAM and marks stay as they are

pub data Reads {A : Type 0} : Prog A → Type 0 where
  reads_done : {a : A} → Reads (done a)
  reads_on : {who : Reader} {c : Bool} {h : ℕ} {k : ℕ → Prog A} → ((v : ℕ) → Reads (k v)) → Reads (read who c h k)

pub reads_bind : {A B : Type 0} {p : Prog A} {f : A → Prog B} → Reads p → ((a : A) → Reads (f a)) → Reads (bind p f)
unfolding bind
reads_bind reads_done g = g _
reads_bind (reads_on k) g = reads_on (λ v. reads_bind (k v) g)

pub reads_ram : {A : Type 0} {p : Prog A} → Reads p → (m : Mem) → (run p m).mem.ram ≡ m.ram
unfolding run
reads_ram reads_done m = refl
reads_ram (reads_on k) m = reads_ram (k _) _

pub reads_marks : {A : Type 0} {p : Prog A} → Reads p → (m : Mem) → (run p m).mem.marks ≡ m.marks
unfolding run
reads_marks reads_done m = refl
reads_marks (reads_on k) m = reads_marks (k _) _

-- ---- what is lent stays lent

pub lent_after : {A : Type 0} {p : Prog A} {size : ℕ} {m n : Mem} {a : A} → Does p m a n → Lent size m.ram m.marks → Lent size n.ram n.marks
lent_after d l =
    let k = does_kept d in
    record { ram_size = k.ram ∙ l.ram_size; marks_size = ap (λ (x : ℕ). x * 16) k.marks ∙ l.marks_size; sized = l.sized }

pub within : {size : ℕ} {ram marks : List ℕ} {a : ByteAddress} → Lent size ram marks → a.0 < size → Within ram marks a
within l h = record { below = omega arith; marks_size = omega arith }
