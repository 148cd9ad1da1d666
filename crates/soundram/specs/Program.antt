-- What a call does to sound RAM, as a program of reads and writes. Assumes nothing.
use Rattle.std.specs.Prelude.{◌≡◌, Bool, true, false, ◌||◌, ◌&&◌, not, List, [], ◌∷◌, ◌++◌, ℕ, zero, suc, ◌*◌, ◌/◌, ◌%◌}
use Rattle.soundram.specs.Memory.{half, put_half, marked, mark, reading, writing}
use Rattle.soundram.specs.Address.{forward_of, halfword_of}
use Rattle.soundram.specs.declared.ByteAddress.{ByteAddress}
use Rattle.soundram.specs.declared.Watch.{Watch}
use Rattle.soundram.specs.declared.Reader.{Reader}

-- A program ends in an answer; or reads a halfword, counted or not, and goes on with its value; or writes one and goes on.
pub data Prog (A : Type 0) : Type 0 where
  done : A → Prog A
  read : Reader → Bool → ℕ → (ℕ → Prog A) → Prog A
  write : ℕ → ℕ → Prog A → Prog A

-- the memory: what is lent, and the watch
pub record Mem : Type 0 where
  pub ram : List ℕ
  pub marks : List ℕ
  pub watch : Watch

abbrev pub mem_of : List ℕ → List ℕ → Watch → Mem
mem_of ram marks w = record { ram = ram; marks = marks; watch = w }

abbrev pub after_read : Bool → ℕ → Mem → Mem
after_read counted h m = record { ram = m.ram; marks = m.marks; watch = reading counted h m.marks m.watch }

abbrev pub after_write : ℕ → ℕ → Mem → Mem
after_write h v m = record { ram = put_half m.ram h v; marks = mark m.marks h; watch = writing h m.watch }

-- ---- what a program answers, and the memory after it

pub record Result (A : Type 0) : Type 0 where
  pub answer : A
  pub mem : Mem

unfoldable pub run : {A : Type 0} → Prog A → Mem → Result A
run (done a) m = record { answer = a; mem = m }
run (read who counted h k) m = run (k (half m.ram h)) (after_read counted h m)
run (write h v p) m = run p (after_write h v m)

-- p, run on m, answers a and leaves n: the contract of every function that touches sound RAM
pub record Does {A : Type 0} (p : Prog A) (m : Mem) (a : A) (n : Mem) : Type 0 where
  pub ran : run p m ≡ record { answer = a; mem = n }

-- ---- the accesses in order, each with whether its halfword was marked at that moment

pub data Access : Type 0 where
  reads : Reader → Bool → ℕ → Bool → Access
  writes : ℕ → Bool → Access

unfoldable pub trace : {A : Type 0} → Prog A → Mem → List Access
trace (done a) m = []
trace (read who counted h k) m = reads who counted h (marked m.marks h) ∷ trace (k (half m.ram h)) (after_read counted h m)
trace (write h v p) m = writes h (marked m.marks h) ∷ trace p (after_write h v m)

-- a counted read that meets an unmarked halfword
abbrev pub is_unmarked : Access → Bool
is_unmarked (reads who counted h loaded) = counted && not loaded
is_unmarked (writes h loaded) = false

unfoldable pub any_unmarked : List Access → Bool
any_unmarked [] = false
any_unmarked (x ∷ xs) = is_unmarked x || any_unmarked xs

-- ---- programs made of programs

unfoldable pub bind : {A B : Type 0} → Prog A → (A → Prog B) → Prog B
bind (done a) f = f a
bind (read who counted h k) f = read who counted h (λ v. bind (k v) f)
bind (write h v p) f = write h v (bind p f)

unfoldable pub get : Reader → Bool → ℕ → Prog ℕ
get who counted h = read who counted h (λ v. done v)

unfoldable pub put : ℕ → ℕ → Prog (Unit {0})
put h v = write h v (done tt)

unfoldable pub branch : {A : Type 0} → Bool → Prog A → Prog A → Prog A
branch true p q = p
branch false p q = q

-- f 0, then f 1, .., then f (n - 1)
unfoldable pub repeat : {S : Type 0} → (ℕ → S → Prog S) → ℕ → S → Prog S
repeat f zero s = done s
repeat f (suc n) s = bind (repeat f n s) (λ t. f n t)

-- "A block load accesses 8 halfwords, in order from the voice address on, wrapping.": n halfwords, as bytes
unfoldable pub bytes_from : Reader → ℕ → ByteAddress → ℕ → Prog (List ℕ)
bytes_from who size a zero = done []
bytes_from who size a (suc n) =
    bind (bytes_from who size a n) (λ bs.
    bind (get who true (halfword_of (forward_of size a (n * 2)))) (λ v.
    done (bs ++ v % 256 ∷ v / 256 ∷ [])))
