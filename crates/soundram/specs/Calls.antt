-- Lists of calls on a state, and when two runs of one list cannot be told apart: demand 3, of any machine whose calls are programs.
-- Assumes nothing.
use Rattle.std.specs.Prelude.{◌≡◌, Bool, true, false, cond, ◌&&◌, not, List, [], ◌∷◌, ◌++◌, ℕ, zero, suc, eqb, length, ℤ}
use Rattle.soundram.specs.Memory.{marked}
use Rattle.soundram.specs.Program.{Prog, mem_of, run, Access, trace, any_unmarked}
use Rattle.soundram.specs.TwoRuns.{AgreeAt, Safe}
use Rattle.soundram.specs.declared.Watch.{Watch}

pub record Reply (A S : Type 0) : Type 0 where
  pub answer : A
  pub state : S

-- what a call does each time that it works, of the time's number, and of the samples and the state that the time before it left
abbrev pub Time : Type 0 → Type 0
Time S = ℕ → Reply (List ℤ) S → Prog (Reply (List ℤ) S)

-- what a call does: it answers at once, as a refused call does, and touches no memory; or it works on what is lent; or it works so many times in a row, each
-- on what the time before it left, and fills a list of samples: its answer is made of the times that reported the interrupt and the doubt, or of the number
-- of all times where none did, and of the samples
pub data Doing (A S : Type 0) : Type 0 where
  still : A → S → Doing A S
  works : Prog (Reply A S) → Doing A S
  repeats : ℕ → Time S → List ℤ → (ℕ → ℕ → List ℤ → A) → Doing A S

-- a machine: what each call does to a state, of RAM and marks of these lengths; and the part of a state that its accesses watch
pub record Machine (C A S : Type 0) : Type 1 where
  pub step : C → S → ℕ → ℕ → Doing A S
  pub watch : S → Watch
  pub watched : S → Watch → S

-- all that can be seen of a call: "all that a call returns, with its number and reports", the state and the marks after it; besides, the RAM
-- after it and the accesses that it made
pub record Outcome (A S : Type 0) : Type 0 where
  pub answer : A
  pub irq : Bool
  pub doubt : Bool
  pub state : S
  pub ram : List ℕ
  pub marks : List ℕ
  pub accesses : List Access

-- a call that works many times, so far: the state, RAM and marks that the last time left, the samples, the times that reported, and the accesses of all
pub record Times (S : Type 0) : Type 0 where
  pub state : S
  pub ram : List ℕ
  pub marks : List ℕ
  pub out : List ℤ
  pub irq : ℕ
  pub doubt : ℕ
  pub accesses : List Access

-- before the first of n times
abbrev pub start_of : {S : Type 0} → ℕ → S → List ℕ → List ℕ → List ℤ → Times S
start_of n s ram marks out = record { state = s; ram = ram; marks = marks; out = out; irq = n; doubt = n; accesses = [] }

-- once time k gave o
abbrev pub with_time : {S : Type 0} → ℕ → Outcome (List ℤ) S → Times S → Times S
with_time k o t =
    record {
      state = o.state;
      ram = o.ram;
      marks = o.marks;
      out = o.answer;
      irq = cond o.irq k t.irq;
      doubt = cond o.doubt k t.doubt;
      accesses = t.accesses ++ o.accesses;
    }

-- what n times give: the call reports what one of them reported
abbrev pub end_of : {A S : Type 0} → ℕ → (ℕ → ℕ → List ℤ → A) → Times S → Outcome A S
end_of n end t =
    record {
      answer = end t.irq t.doubt t.out;
      irq = not (eqb t.irq n);
      doubt = not (eqb t.doubt n);
      state = t.state;
      ram = t.ram;
      marks = t.marks;
      accesses = t.accesses;
    }

module _ {C A S : Type 0} (M : Machine C A S) where
  -- what a program gives and leaves, from the state that it finds; "the call that sets it reports it, later ones do not"
  unfoldable pub worked_of : {B : Type 0} → Prog (Reply B S) → S → List ℕ → List ℕ → Outcome B S
  worked_of p s ram marks =
      let m = mem_of ram marks (M.watch s) in
      let r = run p m in
      record {
        answer = r.answer.answer;
        irq = r.mem.watch.latch && not (M.watch s).latch;
        doubt = r.mem.watch.doubt && not (M.watch s).doubt;
        state = M.watched r.answer.state r.mem.watch;
        ram = r.mem.ram;
        marks = r.mem.marks;
        accesses = trace p m;
      }

  -- time k
  unfoldable pub time_of : Time S → ℕ → Times S → Times S
  time_of f k t = with_time k (worked_of (f k (record { answer = t.out; state = t.state })) t.state t.ram t.marks) t

  -- k times
  unfoldable pub times_of : Time S → ℕ → Times S → Times S
  times_of f zero t = t
  times_of f (suc k) t = time_of f k (times_of f k t)

  unfoldable pub outcome : Doing A S → S → List ℕ → List ℕ → Outcome A S
  outcome (still a t) s ram marks = record { answer = a; irq = false; doubt = false; state = t; ram = ram; marks = marks; accesses = [] }
  outcome (works p) s ram marks = worked_of p s ram marks
  outcome (repeats n f out end) s ram marks = end_of n end (times_of f n (start_of n s ram marks out))

  -- the outcomes of a list of calls, each on what the one before it left
  unfoldable pub log : List C → S → List ℕ → List ℕ → List (Outcome A S)
  log [] s ram marks = []
  log (c ∷ cs) s ram marks =
      let o = outcome (M.step c s (length ram) (length marks)) s ram marks in
      o ∷ log cs o.state o.ram o.marks

-- ---- two runs

-- "give equal answers": answers, reports, states and marks are equal, and the RAMs still agree on marked halfwords
pub record Alike {A S : Type 0} (o p : Outcome A S) : Type 0 where
  pub answer : o.answer ≡ p.answer
  pub irq : o.irq ≡ p.irq
  pub state : o.state ≡ p.state
  pub marks : o.marks ≡ p.marks
  pub len : length o.ram ≡ length p.ram
  pub ram : (h : ℕ) → marked o.marks h ≡ true → AgreeAt o.ram p.ram h

-- a call that reports no doubt, and whose counted reads all met marked halfwords; and one that reports doubt, of whose counted reads one met
-- an unmarked halfword
pub record Sure {A S : Type 0} (o : Outcome A S) : Type 0 where
  pub report : o.doubt ≡ false
  pub met : any_unmarked o.accesses ≡ false

pub record Doubtful {A S : Type 0} (o : Outcome A S) : Type 0 where
  pub report : o.doubt ≡ true
  pub met : any_unmarked o.accesses ≡ true

-- "equal answers up to the first report of doubt, and that comes in both at the same call, exactly when a counted read first meets a halfword
-- that nobody loaded": to the end of the list, or to a call that is doubtful in both
pub data Indistinct {A S : Type 0} : List (Outcome A S) → List (Outcome A S) → Type 0 where
  both_end : Indistinct [] []
  both_sure : {o p : Outcome A S} {os ps : List (Outcome A S)} → Sure o → Sure p → Alike o p → Indistinct os ps → Indistinct (o ∷ os) (p ∷ ps)
  both_doubt : {o p : Outcome A S} {os ps : List (Outcome A S)} → Doubtful o → Doubtful p → Indistinct (o ∷ os) (p ∷ ps)

-- what is asked of a machine: its programs are safe, a call that touches no memory raises no doubt, and a state keeps what was watched
abbrev pub SafeDoing : {A S : Type 0} → Doing A S → Type 0
SafeDoing (still a s) = Unit {0}
SafeDoing (works p) = Safe p
SafeDoing {S} (repeats n f out end) = (k : ℕ) (r : Reply (List ℤ) S) → Safe (f k r)

pub record Sound {C A S : Type 0} (M : Machine C A S) : Type 0 where
  pub safe : (c : C) (s : S) (n m : ℕ) → SafeDoing (M.step c s n m)
  pub quiet : (c : C) (s t : S) (n m : ℕ) (a : A) → M.step c s n m ≡ still a t → (M.watch s).doubt ≡ false → (M.watch t).doubt ≡ false
  pub kept : (s : S) (w : Watch) → (M.watch (M.watched s w)).doubt ≡ w.doubt
