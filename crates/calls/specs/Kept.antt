-- The calls on a state in the buffer that a caller lends. Assumes nothing.
use Rattle.std.specs.Prelude.{◌≡◌, Bool, true, false, cond, not, List, [], ◌∷◌, ℕ, eqb, length, take, drop}
use Rattle.soundram.specs.Calls.{Outcome}
use Rattle.chip.specs.State.{fresh_of, size_ok}
use Rattle.layout.specs.Layout.{state_length, state_of, buffer_of, is_tagged, is_well_formed, is_state, Holds}
use Rattle.spu.specs.Step.{Call, view, Answer, Test, test, first_of, tests_of, refused_of, outcome_of}

-- ---- numbers

-- the first of these tests that applies, for a buffer with a state's length and tag; 2 for any other. Number 1 compares lengths with the L that stands in the buffer, whatever it is, and
-- goes before number 2, "a state field outside its range", which any buffer that is not a state's gets
abbrev pub tested_of : List ℕ → List Test → ℕ
tested_of xs ts = cond (is_tagged xs) (first_of ts) 2

unfoldable pub number_in : Call → List ℕ → ℕ → ℕ → ℕ
number_in c xs ram marks = tested_of xs (tests_of c (is_state xs) (state_of xs) ram marks)

-- ---- what a call gives and leaves

-- accepted: the outcome of the call on the state that stands in the buffer, and the buffer of the state after it
abbrev pub kept_in : Call → List ℕ → List ℕ → List ℕ → Outcome Answer (List ℕ)
kept_in c xs ram marks =
    let o = outcome_of c (state_of xs) ram marks in
    record { answer = o.answer; irq = o.irq; doubt = o.doubt; state = buffer_of o.state; ram = o.ram; marks = o.marks; accesses = o.accesses }

-- refused: the number, and everything as it was
abbrev pub kept_not : Call → ℕ → List ℕ → List ℕ → List ℕ → Outcome Answer (List ℕ)
kept_not c n xs ram marks = record { answer = refused_of c n; irq = false; doubt = false; state = xs; ram = ram; marks = marks; accesses = [] }

unfoldable pub kept_of : Call → List ℕ → List ℕ → List ℕ → Outcome Answer (List ℕ)
kept_of c xs ram marks = let n = number_in c xs (length ram) (length marks) in cond (eqb n 0) (kept_in c xs ram marks) (kept_not c n xs ram marks)

-- a call gives this answer and these reports, and leaves this buffer, RAM and marks; and a buffer that held a state then holds the state that the call leaves
pub record Keeps (c : Call) (b r m : List ℕ) (a : Answer) (i d : Bool) (b' r' m' : List ℕ) : Type 0 where
  pub answer : a ≡ (kept_of c b r m).answer
  pub irq : i ≡ (kept_of c b r m).irq
  pub doubt : d ≡ (kept_of c b r m).doubt
  pub state : b' ≡ (kept_of c b r m).state
  pub ram : r' ≡ (kept_of c b r m).ram
  pub marks : m' ≡ (kept_of c b r m).marks
  pub holds : is_well_formed b ≡ true → Holds b' (outcome_of c (state_of b) r m).state

-- a run of n ticks reports if one of them, k, did
abbrev pub reports : ℕ → ℕ → Bool
reports k n = not (eqb k n)

-- a call that is lent neither RAM nor marks, whatever they are
abbrev pub KeepsStill : Call → List ℕ → Answer → List ℕ → Type 0
KeepsStill c xs a ys = (ram marks : List ℕ) → Keeps c xs ram marks a false false ys ram marks

-- ---- "Making a state for another L gives 1 and the fresh state for 65,536.": 2 for a buffer of another length, which stays

pub record Made : Type 0 where
  pub number : ℕ
  pub state : List ℕ

unfoldable pub make_of : ℕ → List ℕ → Made
make_of size xs =
    let fits = eqb (length xs) state_length in
    record {
      number = first_of (test (not (size_ok size)) 1 ∷ test (not fits) 2 ∷ []);
      state = cond fits (buffer_of (fresh_of (cond (size_ok size) size 0x10000))) xs;
    }

-- ---- "The block view gives back the caller's own sixteen bytes of sound RAM", "an empty view" on refusal

unfoldable pub view_of : List ℕ → List ℕ → ℕ → List ℕ
view_of xs ram a = cond (eqb (number_in (view a) xs (length ram) 0) 0) (take 16 (drop a ram)) []

-- a view has sixteen bytes where its number is 0
abbrev pub view_length : ℕ → ℕ
view_length n = cond (eqb n 0) 16 0
