-- Every call, with its refusals, as one step of a machine. Assumes nothing.
use Rattle.std.specs.Prelude.{◌≡◌, Bool, false, cond, ◌||◌, ◌&&◌, not, List, [], ◌∷◌, ◌++◌, map, ℕ, ◌+◌, ◌-◌, ◌*◌, ◌/◌, ◌%◌, eqb, ltb, length, get_or, set, ℤ, pos, Float}
use Rattle.fixed.specs.Bits.{field}
use Rattle.stereo.specs.declared.Stereo.{Stereo}
use Rattle.stereo.specs.Float.{float_of, stereo_of}
use Rattle.soundram.specs.Program.{Prog, done, bind}
use Rattle.soundram.specs.Calls.{Reply, Doing, still, works, repeats, Machine, Outcome, outcome}
use Rattle.registers.specs.Offsets.{listed, read_only, undocumented, not_written, not_read}
use Rattle.chip.specs.State.{State, with_transfer, fresh_of, state_ok, watch_of, watched_of}
use Rattle.chip.specs.Registers.{write_of, read_of}
use Rattle.transfer.specs.Transfer.{inward_of, outward_of}
use Rattle.tick.specs.Tick.{tick_of}

-- a call with its fixed arguments; an outgoing buffer is lent with its contents. `run` is a run of ticks, for hosts that want many at a time: it takes the
-- CD's samples, and makes a tick for each pair of the outgoing buffer; `run_floats` is lent a buffer of floats too. `view` is the block view, in document 01's
-- word: a look at the sixteen bytes of one ADPCM block in the caller's own RAM. `status` is a look at the state
pub data Call : Type 0 where
  write : ℕ → ℕ → Call
  read : ℕ → Call
  transfer_in : List ℕ → Call
  transfer_out : List ℕ → Call
  tick : ℤ → ℤ → Call
  tick_floats : ℤ → ℤ → Call
  run : List ℤ → List ℤ → Call
  run_floats : List ℤ → List ℤ → List Float → Call
  reset : Call
  view : ℕ → Call
  status : Call

-- "Answers are all that a call returns, with its number .., and the outgoing buffer after it; of a block view, the number and the length." A run tells how
-- many ticks it made, and which of them reported the interrupt and the doubt, or that count where none did; a status whether doubt stands, L and the tick
-- number
pub data Answer : Type 0 where
  written : ℕ → Answer
  value : ℕ → ℕ → Answer
  moved : ℕ → ℕ → Answer
  moved_out : ℕ → ℕ → List ℕ → Answer
  pair : ℕ → Stereo ℤ → Answer
  floats : ℕ → Stereo Float → Answer
  ran : (number count irq doubt : ℕ) → List ℤ → Answer
  ran_floats : (number count irq doubt : ℕ) → List ℤ → List Float → Answer
  made : ℕ → Answer
  viewed : ℕ → ℕ → Answer
  looked : (number : ℕ) → (doubt : Bool) → (size tick : ℕ) → Answer

-- ---- "Numbers a call returns": an ordered list of tests, of which the first that applies gives its number, and 0 where none does. Document 01 gives the
-- lowest number that applies; document 02 amends that rule: 11 is "tested after 4 and before 5"

pub record Test : Type 0 where
  pub applies : Bool
  pub number : ℕ

unfoldable pub first_of : List Test → ℕ
first_of [] = 0
first_of (t ∷ ts) = cond t.applies t.number (first_of ts)

abbrev pub test : Bool → ℕ → Test
test b n = record { applies = b; number = n }

-- 1: "RAM or marks of another length than the state's L asks"; a block view is lent RAM alone
abbrev other_ram : State → ℕ → Bool
other_ram s ram = not (eqb ram s.choices.size)

abbrev other_lent : State → ℕ → ℕ → Bool
other_lent s ram marks = other_ram s ram || not (eqb marks (s.choices.size / 16))

-- 2: "a state field outside its range", of whether all are in theirs
abbrev pub outside : Bool → Test
outside good = test (not good) 2

-- 6: the transfer mode
abbrev mode_of : State → ℕ
mode_of s = field 4 2 s.control.applied

-- "applied mode not 1 or 2 (inward), not 3 (outward)"
abbrev pub not_inward : State → Bool
not_inward s = not (eqb (mode_of s) 1 || eqb (mode_of s) 2)

abbrev pub not_outward : State → Bool
not_outward s = not (eqb (mode_of s) 3)

-- 7: "0 or more than 32 halfwords"
abbrev pub bad_count : ℕ → Bool
bad_count n = eqb n 0 || ltb 32 n

-- 8: "block address odd, not a multiple of 8, or beyond L-16"
abbrev pub bad_block : State → ℕ → Bool
bad_block s a = not (eqb (a % 8) 0) || ltb (s.choices.size - 16) a

-- 25: the buffer is not of whole pairs, or the CD's is of another length; a CD's buffer of no samples is a silent CD
abbrev pub run_tests : ℕ → ℕ → List Test
run_tests cd out = test ((not (eqb cd 0) && not (eqb cd out)) || not (eqb (out % 2) 0)) 25 ∷ []

-- 25: also where the floats' buffer is of another length
abbrev pub floats_tests : ℕ → ℕ → List Test
floats_tests fs out = test (not (eqb fs out)) 25 ∷ []

-- the tests of every call that is lent RAM and marks, before its own
abbrev pub lent_tests : Bool → State → ℕ → ℕ → List Test → List Test
lent_tests good s ram marks ts = test (other_lent s ram marks) 1 ∷ outside good ∷ ts

-- the tests of a transfer, of whether the mode is another's
abbrev pub move_tests : Bool → ℕ → List Test
move_tests wrong n = test wrong 6 ∷ test (bad_count n) 7 ∷ []

-- the tests of each call, of whether the state is in its ranges
abbrev pub tests_of : Call → Bool → State → ℕ → ℕ → List Test
tests_of (write offset v) good s ram marks =
    outside good ∷ test (not (listed offset)) 3 ∷ test (read_only offset) 4 ∷ test (undocumented offset v) 11 ∷ test (not_written offset v) 5 ∷ []
tests_of (read offset) good s ram marks = outside good ∷ test (not (listed offset)) 3 ∷ test (not_read offset) 5 ∷ []
tests_of (transfer_in vs) good s ram marks = lent_tests good s ram marks (move_tests (not_inward s) (length vs))
tests_of (transfer_out b) good s ram marks = lent_tests good s ram marks (move_tests (not_outward s) (length b))
tests_of (tick left right) good s ram marks = lent_tests good s ram marks []
tests_of (tick_floats left right) good s ram marks = lent_tests good s ram marks []
tests_of (run cd out) good s ram marks = lent_tests good s ram marks (run_tests (length cd) (length out))
tests_of (run_floats cd out fs) good s ram marks =
    lent_tests good s ram marks (run_tests (length cd) (length out) ++ floats_tests (length fs) (length out))
tests_of reset good s ram marks = outside good ∷ []
tests_of (view a) good s ram marks = test (other_ram s ram) 1 ∷ outside good ∷ test (bad_block s a) 8 ∷ []
tests_of status good s ram marks = outside good ∷ []

unfoldable pub number_of : Call → State → ℕ → ℕ → ℕ
number_of c s ram marks = first_of (tests_of c (state_ok s) s ram marks)

-- ---- what each call does

-- "A refusal returns the state as handed in, zero for samples, counts and register readings, an empty view, .. outgoing buffer as they stood."
unfoldable pub refused_of : Call → ℕ → Answer
refused_of (write offset v) n = written n
refused_of (read offset) n = value n 0
refused_of (transfer_in vs) n = moved n 0
refused_of (transfer_out b) n = moved_out n 0 b
refused_of (tick left right) n = pair n (record { left = pos 0; right = pos 0 })
refused_of (tick_floats left right) n = floats n (stereo_of (pos 0) (pos 0))
refused_of (run cd out) n = ran n 0 0 0 out
refused_of (run_floats cd out fs) n = ran_floats n 0 0 0 out fs
refused_of reset n = made n
refused_of (view a) n = viewed n 0
refused_of status n = looked n false 0 0

abbrev reply : Answer → State → Reply Answer State
reply a s = record { answer = a; state = s }

-- tick k of a run, whose pair goes to samples 2k and 2k+1; past the end of the CD's buffer there is silence
unfoldable pub tick_into : List ℤ → ℕ → Reply (List ℤ) State → Prog (Reply (List ℤ) State)
tick_into cd k so =
    bind (tick_of so.state (get_or cd (k * 2) (pos 0)) (get_or cd (k * 2 + 1) (pos 0))) (λ r.
    done (record { answer = set (set so.answer (k * 2) r.answer.left) (k * 2 + 1) r.answer.right; state = r.state }))

-- "Hosts may have the pair as 32-bit floats": those of a run stand beside its samples. "Reset gives back the state as made"; "The block view gives back the
-- caller's own sixteen bytes"
unfoldable pub accepted_of : Call → State → Doing Answer State
accepted_of (write offset v) s = still (written 0) (write_of s offset v)
accepted_of (read offset) s = still (value 0 (read_of s offset)) s
accepted_of (transfer_in vs) s = works (bind (inward_of s.choices.size s.transfer vs) (λ a. done (reply (moved 0 (length vs)) (with_transfer s a))))
accepted_of (transfer_out b) s =
    works (bind (outward_of s.choices.size s.transfer b) (λ o. done (reply (moved_out 0 (length b) o.buffer) (with_transfer s o.address))))
accepted_of (tick left right) s = works (bind (tick_of s left right) (λ r. done (reply (pair 0 r.answer) r.state)))
accepted_of (tick_floats left right) s = works (bind (tick_of s left right) (λ r. done (reply (floats 0 (stereo_of r.answer.left r.answer.right)) r.state)))
accepted_of (run cd out) s = let n = length out / 2 in repeats n (tick_into cd) out (λ irq doubt o. ran 0 n irq doubt o)
accepted_of (run_floats cd out fs) s = let n = length out / 2 in repeats n (tick_into cd) out (λ irq doubt o. ran_floats 0 n irq doubt o (map float_of o))
accepted_of reset s = still (made 0) (fresh_of s.choices.size)
accepted_of (view a) s = still (viewed 0 16) s
accepted_of status s = still (looked 0 s.control.doubt s.choices.size s.tick) s

unfoldable pub step_of : Call → State → ℕ → ℕ → Doing Answer State
step_of c s ram marks = let n = number_of c s ram marks in cond (eqb n 0) (accepted_of c s) (still (refused_of c n) s)

abbrev pub chip : Machine Call Answer State
chip = record { step = step_of; watch = watch_of; watched = watched_of }

-- all that a call gives and leaves, of what it is lent
unfoldable pub outcome_of : Call → State → List ℕ → List ℕ → Outcome Answer State
outcome_of c s ram marks = outcome chip (step_of c s (length ram) (length marks)) s ram marks

-- a call that is lent RAM and marks gives this answer and these reports, and leaves this state, RAM and marks
pub record Leaves (c : Call) (s : State) (r m : List ℕ) (a : Answer) (i d : Bool) (t : State) (r' m' : List ℕ) : Type 0 where
  pub answer : a ≡ (outcome_of c s r m).answer
  pub irq : i ≡ (outcome_of c s r m).irq
  pub doubt : d ≡ (outcome_of c s r m).doubt
  pub state : t ≡ (outcome_of c s r m).state
  pub ram : r' ≡ (outcome_of c s r m).ram
  pub marks : m' ≡ (outcome_of c s r m).marks
