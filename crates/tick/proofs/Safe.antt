-- A tick is safe: its answer and its writes are the same whatever its uncounted reads give. Assumes nothing.
use Rattle.std.proofs.Common.{◌≡◌, ℕ, ◌+◌, Bool, true, false, cond, not, ◌&&◌, List, ℤ, pos, refl, eqb-true}
use Rattle.fixed.specs.Bits.{bit}
use Rattle.soundram.specs.TwoRuns.{Safe}
use Rattle.soundram.proofs.Programs.{Always, ends, always_bind, Reads, reads_done, reads_bind}
use Rattle.soundram.proofs.TwoRuns.{safe_done, safe_bind}
use Rattle.registers.specs.Map.{register_at}
use Rattle.voices.specs.declared.Sums.{Sums}
use Rattle.voices.proofs.Turns.{safe_voices}
use Rattle.capture.proofs.Captures.{safe_capture}
use Rattle.reverb.specs.declared.Area.{Area}
use Rattle.reverb.specs.declared.Turning.{Turning}
use Rattle.reverb.specs.Reverb.{side_of, own, turn_of}
use Rattle.reverb.proofs.Safe.{counted_turn, blind_turn, silent_turn, reads_turn}
use Rattle.chip.specs.declared.Reverb.{Reverb}
use Rattle.chip.specs.State.{State}
use Rattle.tick.specs.Tick.{turning_of, held_of, reverb_after, reverb_of, tick_of}

-- ---- a tick

-- a turn whose reads count unless nothing is written and the output volume is 0
turn_safe : (regs : List ℕ) (area : Area) (t : Turning) (input : ℤ) (on none : Bool) → t.counted ≡ not (not on && none) → t.writes ≡ on
    → (none ≡ true → register_at regs (own regs area t 0x184) ≡ 0) → Safe (turn_of regs area t input)
turn_safe regs area t input true none c w e = counted_turn regs area t c input
turn_safe regs area t input false false c w e = counted_turn regs area t c input
turn_safe regs area t input false true c w e = blind_turn regs area t w input (e refl)

turning_safe : (regs : List ℕ) (area : Area) (right : Bool) (input : ℤ) → Safe (turn_of regs area (turning_of regs right) input)
unfolding turning_of
turning_safe regs area right input =
    turn_safe regs area (turning_of regs right) input (bit 7 (register_at regs 0x1AA)) _ refl refl (λ e. eqb-true _ _ e)

safe_reverb : (regs : List ℕ) (size : ℕ) (r : Reverb) (sums : Sums) (left right : ℤ) → Safe (reverb_of regs size r sums left right)
unfolding reverb_of
safe_reverb regs size r sums left right = safe_bind (turning_safe regs _ r.right _) (λ out. safe_done _)

pub safe_tick : (s : State) (left right : ℤ) → Safe (tick_of s left right)
unfolding tick_of
safe_tick s left right =
    safe_bind (safe_voices _ s.regs _ 24 _) (λ b. safe_bind (safe_capture _ left right _) (λ _. safe_bind (safe_reverb s.regs _ s.reverb b.sums left right) (λ r. safe_done _)))

-- ---- the reads that do not count: the held output of that side is then 0, and nothing is written

module _ (regs : List ℕ) (size : ℕ) (r : Reverb) (sums : Sums) (left right : ℤ) (off : bit 7 (register_at regs 0x1AA) ≡ false) where
  pub unwritten : Reads (reverb_of regs size r sums left right)
  unfolding reverb_of turning_of
  unwritten = reads_bind (reads_turn regs _ _ off _) (λ out. reads_done)

  pub unheard : register_at regs (0x184 + side_of r.right) ≡ 0
      → Always (λ (a : Reverb). cond r.right a.held.right a.held.left ≡ pos 0) (reverb_of regs size r sums left right)
  unfolding reverb_of turning_of reverb_after held_of
  unheard none = always_bind (silent_turn regs _ _ off _ none) (λ out e. ends (by r.right out e))
    where
      by : (b : Bool) (out : ℤ) → out ≡ pos 0 → cond b (cond b out r.held.right) (cond b r.held.left out) ≡ pos 0
      by true out e = e
      by false out e = e
