-- The numbers of refusals. Assumes nothing.
use Rattle.std.specs.Prelude.{Result, Ok, Err, ℕ}
use Rattle.calls.specs.declared.Refusal.{Refusal}
use Rattle.calls.specs.declared.Refusal.TheVariants.{OtherLength, NotAState, UnlistedOffset, ReadOnly, NotCarried, OtherMode, BadCount, BadBlock, UndocumentedBits, BadBuffers}

-- "Numbers a call returns"; 11 and 25 are document 02's
abbrev pub number_of : Refusal → ℕ
number_of OtherLength = 1
number_of NotAState = 2
number_of UnlistedOffset = 3
number_of ReadOnly = 4
number_of NotCarried = 5
number_of OtherMode = 6
number_of BadCount = 7
number_of BadBlock = 8
number_of UndocumentedBits = 11
number_of BadBuffers = 25

-- the number of a call that found this: 0 where it is not refused
abbrev pub answered : {A : Type 0} → Result A Refusal → ℕ
answered (Ok x) = 0
answered (Err r) = number_of r
