-- Two runs of one program, on memories that agree on what is marked, end alike or both in doubt. Assumes nothing.
use mathlib.Core.Path.{◌≡◌, refl, ap, ap₂, sym, ◌∙◌, subst}
use mathlib.Core.Bool.{Bool, true, false, ◌||◌, not, or-true}
use mathlib.Core.List.{List}
use Prim.Native.Nat.{ℕ, zero, suc}
use native.Mathlib.Decide.{ℕ_discrete}
use Rattle.soundram.specs.Memory.{half, put_half, marked, mark, reading, writing}
use Rattle.soundram.specs.Program.{Prog, done, Mem, after_read, after_write, run, bind, get, put, branch, repeat}
use Rattle.soundram.specs.TwoRuns.{AgreeAt, Agree, Same, doubted, alike, Rel, both_done, seen, blind, both_write, Safe}
use Rattle.soundram.specs.declared.Reader.{Reader}
use Rattle.soundram.specs.declared.Watch.{Watch}
use Rattle.soundram.proofs.Halfwords.{put_half_length, half_agree, agree_same, agree_other, mark_other}
use Rattle.soundram.proofs.Programs.{sticky}

agree_read : (c : Bool) (h : ℕ) {m n : Mem} → Agree m n → Agree (after_read c h m) (after_read c h n)
agree_read c h g = record { marks = g.marks; watch = ap₂ (reading c h) g.marks g.watch; len = g.len; ram = g.ram }

agree_write : (h v : ℕ) {m n : Mem} → Agree m n → Agree (after_write h v m) (after_write h v n)
agree_write h v {m} {n} g =
    record {
      marks = ap (λ (l : List ℕ). mark l h) g.marks;
      watch = ap (writing h) g.watch;
      len = put_half_length m.ram h v ∙ g.len ∙ sym (put_half_length n.ram h v);
      ram =
          λ x e.
          elim (ℕ_discrete x h) [
            | yes p ↦ subst (λ (y : ℕ). AgreeAt (put_half m.ram h v) (put_half n.ram h v) y) (sym p) (agree_same m.ram n.ram h v g.len)
            | no ne ↦ agree_other m.ram n.ram h v x ne (g.ram x (sym (mark_other m.marks h x ne) ∙ e))
          ];
    }

-- a counted read of an unmarked halfword
doubts : (h : ℕ) (marks : List ℕ) (w : Watch) → marked marks h ≡ false → (reading true h marks w).doubt ≡ true
unfolding reading
doubts h marks w e = ap (λ (b : Bool). w.doubt || not b) e ∙ or-true w.doubt

module _ {A B : Type 0} {R : A → B → Type 0} where
  seen_step : (h : ℕ) (k : ℕ → Prog A) (l : ℕ → Prog B) (m n : Mem) → Agree m n → (b : Bool) → marked m.marks h ≡ b
      → ((v : ℕ) → Same R (run (k v) (after_read true h m)) (run (l v) (after_read true h n)))
      → Same R (run (k (half m.ram h)) (after_read true h m)) (run (l (half n.ram h)) (after_read true h n))
  seen_step h k l m n g true e ih =
      subst (λ (v : ℕ). Same R (run (k (half m.ram h)) (after_read true h m)) (run (l v) (after_read true h n))) (half_agree (g.ram h e)) (ih (half m.ram h))
  seen_step h k l m n g false e ih =
      doubted (sticky _ _ (doubts h m.marks m.watch e))
      (sticky _ _ (doubts h n.marks n.watch (ap (λ (l : List ℕ). marked l h) (sym g.marks) ∙ e)))

  pub two_runs : {p : Prog A} {q : Prog B} → Rel R p q → (m n : Mem) → Agree m n → Same R (run p m) (run q n)
  unfolding run
  two_runs (both_done r) m n g = alike r g
  two_runs (seen {h} {k} {l} f) m n g = seen_step h k l m n g (marked m.marks h) refl (λ v. two_runs (f v) _ _ (agree_read true h g))
  two_runs (blind {c} {h} f) m n g = two_runs (f _ _) _ _ (agree_read c h g)
  two_runs (both_write {h} {v} r) m n g = two_runs r _ _ (agree_write h v g)

-- ---- programs made of safe programs are safe

pub rel_bind : {A B C D : Type 0} {R : A → B → Type 0} {S : C → D → Type 0} {p : Prog A} {q : Prog B} {f : A → Prog C} {g : B → Prog D}
    → Rel R p q → ((a : A) (b : B) → R a b → Rel S (f a) (g b)) → Rel S (bind p f) (bind q g)
unfolding bind
rel_bind (both_done r) s = s _ _ r
rel_bind (seen k) s = seen (λ v. rel_bind (k v) s)
rel_bind (blind k) s = blind (λ v w. rel_bind (k v w) s)
rel_bind (both_write r) s = both_write (rel_bind r s)

pub safe_done : {A : Type 0} (a : A) → Safe (done a)
safe_done a = both_done refl

pub safe_bind : {A B : Type 0} {p : Prog A} {f : A → Prog B} → Safe p → ((a : A) → Safe (f a)) → Safe (bind p f)
safe_bind {f} s t = rel_bind s (λ a b e. subst (λ (y : _). Rel (λ u v. u ≡ v) (f a) (f y)) e (t a))

pub safe_get : (who : Reader) (h : ℕ) → Safe (get who true h)
unfolding get
safe_get who h = seen (λ v. both_done refl)

pub safe_put : (h v : ℕ) → Safe (put h v)
unfolding put
safe_put h v = both_write (both_done refl)

pub safe_branch : {A : Type 0} (b : Bool) {p q : Prog A} → Safe p → Safe q → Safe (branch b p q)
unfolding branch
safe_branch true s t = s
safe_branch false s t = t

pub safe_repeat : {S : Type 0} (f : ℕ → S → Prog S) → ((n : ℕ) (s : S) → Safe (f n s)) → (n : ℕ) (s : S) → Safe (repeat f n s)
unfolding repeat
safe_repeat f h zero s = safe_done s
safe_repeat f h (suc n) s = safe_bind (safe_repeat f h n s) (λ t. h n t)
