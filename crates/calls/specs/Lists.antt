-- Lists of calls on a state in a lent buffer. Assumes nothing.
use Rattle.std.specs.Prelude.{Bool, ◌&&◌, List, [], ◌∷◌, ℕ}
use Rattle.soundram.specs.Calls.{Outcome}
use Rattle.chip.specs.State.{State}
use Rattle.layout.specs.Layout.{state_of, is_well_formed}
use Rattle.spu.specs.Step.{Call, Answer}
use Rattle.calls.specs.Kept.{kept_of, Keeps}

-- what the calls of a list gave, each on the buffer, RAM and marks that the one before it left; the accesses are those that the definition makes
pub data Gave : List Call → List ℕ → List ℕ → List ℕ → List (Outcome Answer (List ℕ)) → Type 0 where
  none : {b r m : List ℕ} → Gave [] b r m []
  next : {c : Call} {cs : List Call} {b r m b' r' m' : List ℕ} {a : Answer} {i d : Bool} {os : List (Outcome Answer (List ℕ))} → Keeps c b r m a i d b' r' m' → Gave cs b' r' m' os
      → Gave (c ∷ cs) b r m (record { answer = a; irq = i; doubt = d; state = b'; ram = r'; marks = m'; accesses = (kept_of c b r m).accesses } ∷ os)

-- whether doubt stands in the buffer
abbrev pub doubt_in : List ℕ → Bool
doubt_in b = is_well_formed b && (state_of b).control.doubt

-- what a call gave, with the state that stands in the buffer
abbrev pub standing : Outcome Answer (List ℕ) → Outcome Answer State
standing o = record { answer = o.answer; irq = o.irq; doubt = o.doubt; state = state_of o.state; ram = o.ram; marks = o.marks; accesses = o.accesses }
