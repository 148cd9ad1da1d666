-- What it means that two runs cannot be told apart. Assumes nothing.
use Rattle.std.specs.Prelude.{◌≡◌, Bool, true, List, ℕ, ◌+◌, ◌*◌, length, get_or}
use Rattle.soundram.specs.Memory.{marked}
use Rattle.soundram.specs.Program.{Prog, done, read, write, Mem, Result}

-- "RAMs agree on it if those of its bytes that lie in them are equal": of RAMs of one length, a byte past the end is 0 in both
pub record AgreeAt (r s : List ℕ) (h : ℕ) : Type 0 where
  pub low : get_or r (h * 2) 0 ≡ get_or s (h * 2) 0
  pub high : get_or r (h * 2 + 1) 0 ≡ get_or s (h * 2 + 1) 0

-- two memories that differ at most in unmarked halfwords; RAM and marks of any lengths
pub record Agree (m n : Mem) : Type 0 where
  pub marks : m.marks ≡ n.marks
  pub watch : m.watch ≡ n.watch
  pub len : length m.ram ≡ length n.ram
  pub ram : (h : ℕ) → marked m.marks h ≡ true → AgreeAt m.ram n.ram h

-- two runs that both ended in doubt, or with answers related by R and memories that still agree
pub data Same {A B : Type 0} (R : A → B → Type 0) (r : Result A) (s : Result B) : Type 0 where
  doubted : r.mem.watch.doubt ≡ true → s.mem.watch.doubt ≡ true → Same R r s
  alike : R r.answer s.answer → Agree r.mem s.mem → Same R r s

-- two programs that differ at most in what their uncounted reads gave
pub data Rel {A B : Type 0} (R : A → B → Type 0) : Prog A → Prog B → Type 0 where
  both_done : {a : A} {b : B} → R a b → Rel R (done a) (done b)
  seen : {who : _} {h : ℕ} {k : ℕ → Prog A} {l : ℕ → Prog B} → ((v : ℕ) → Rel R (k v) (l v)) → Rel R (read who true h k) (read who true h l)
  blind : {who : _} {c : Bool} {h : ℕ} {k : ℕ → Prog A} {l : ℕ → Prog B} → ((v w : ℕ) → Rel R (k v) (l w)) → Rel R (read who c h k) (read who c h l)
  both_write : {h v : ℕ} {p : Prog A} {q : Prog B} → Rel R p q → Rel R (write h v p) (write h v q)

-- a program whose answer and writes are the same whatever its uncounted reads give
abbrev pub Safe : {A : Type 0} → Prog A → Type 0
Safe p = Rel (λ a b. a ≡ b) p p
