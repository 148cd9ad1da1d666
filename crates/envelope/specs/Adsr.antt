-- The envelope of document 000, as document 01 reads it. Assumes nothing.
use Rattle.std.specs.Prelude.{Bool, true, false, cond, not, ◌&&◌, ℕ, ◌+◌, ◌-◌, ◌*◌, ◌^◌, min, eqb, leb, ltb, ℤ, pos, negsuc, ◌+ℤ◌, ◌*ℤ◌}
use Rattle.fixed.specs.Bits.{bit, field}
use Rattle.fixed.specs.Arithmetic.{product_of}
use Rattle.envelope.specs.declared.Phase.{Phase}
use Rattle.envelope.specs.declared.Phase.TheVariants.{Idle, Attack, Decay, Sustain, Release, Off}
use Rattle.envelope.specs.declared.Envelope.{Envelope}
use Rattle.envelope.specs.declared.Rate.{Rate}

-- ---- the parameters out of the two ADSR halfwords

-- "0..3 = +7,+6,+5,+4" and "-8,-7,-6,-5"
abbrev pub rise : ℕ → ℤ
rise n = pos (7 - n)

abbrev pub fall : ℕ → ℤ
fall n = negsuc (7 - n)

-- mode, direction, shift and step of each phase, of the halfword at +8 (low) and the one at +Ah (high). "Idle and Off have no steps."
unfoldable pub rate_of : Phase → ℕ → ℕ → Rate
rate_of Idle low high = record { shift = 0; value = pos 0; exponential = false; falling = false }
rate_of Attack low high = record { shift = field 10 5 low; value = rise (field 8 2 low); exponential = bit 15 low; falling = false }
rate_of Decay low high = record { shift = field 4 4 low; value = fall 0; exponential = true; falling = true }
rate_of Sustain low high =
    record { shift = field 8 5 high; value = cond (bit 14 high) (fall (field 6 2 high)) (rise (field 6 2 high)); exponential = bit 15 high; falling = bit 14 high }
rate_of Release low high = record { shift = field 0 5 high; value = fall 0; exponential = bit 5 high; falling = true }
rate_of Off low high = record { shift = 0; value = pos 0; exponential = false; falling = false }

-- "Level=(N+1)*800h"
unfoldable pub sustain_level : ℕ → ℕ
sustain_level low = (field 0 4 low + 1) * 0x800

-- ---- the times and the steps

-- "Cycles = 2^max(0, shift-11)"; "exponential rise above 6000h: cycles times 4". ℕ's difference is never below 0
unfoldable pub cycles_of : Rate → ℕ → ℕ
cycles_of r level = 2 ^ (r.shift - 11) * cond (r.exponential && (not r.falling && ltb 0x6000 level)) 4 1

-- "step = value·2^max(0, 11-shift)"; "exponential fall: step·level/8000h rounded down"
unfoldable pub step_of : Rate → ℕ → ℤ
step_of r level =
    let step = r.value *ℤ pos (2 ^ (11 - r.shift)) in
    cond (r.exponential && r.falling) (product_of step (pos level)) step

-- "clamped to 0..7FFFh"
unfoldable pub clamped : ℤ → ℕ
clamped (pos n) = min n 0x7FFF
clamped (negsuc n) = 0

-- ---- the phases

-- the phases with steps
abbrev pub active : Phase → Bool
active Idle = false
active Attack = true
active Decay = true
active Sustain = true
active Release = true
active Off = false

-- "Entering a phase sets the wait to cycles"; "Idle and Off have no steps; entering them sets the wait to 0."
unfoldable pub wait_of : Phase → ℕ → ℕ → ℕ → ℕ
wait_of phase level low high = cond (active phase) (cycles_of (rate_of phase low high) level) 0

unfoldable pub entered_of : Phase → ℕ → ℕ → ℕ → Envelope
entered_of phase level low high = record { phase = phase; level = level; wait = wait_of phase level low high }

-- "then phases are tested, one change at most"
unfoldable pub phase_after : Phase → ℕ → ℕ → Phase
phase_after Idle level low = Idle
phase_after Attack level low = cond (eqb level 0x7FFF) Decay Attack
phase_after Decay level low = cond (leb level (sustain_level low)) Sustain Decay
phase_after Sustain level low = Sustain
phase_after Release level low = cond (eqb level 0) Off Release
phase_after Off level low = Off

-- "at 0 the level moves, clamped to 0..7FFFh, then phases are tested .. Then the wait is set anew."
unfoldable pub moved_of : Phase → ℕ → ℕ → ℕ → Envelope
moved_of phase level low high =
    let next = clamped (pos level +ℤ step_of (rate_of phase low high) level) in
    entered_of (phase_after phase next low) next low high

-- ---- one tick: "Each tick takes 1; at 0 the level moves"
unfoldable pub ticked_of : Envelope → ℕ → ℕ → Envelope
ticked_of e low high =
    cond (active e.phase)
    (cond (ltb 1 e.wait) (record { phase = e.phase; level = e.level; wait = e.wait - 1 }) (moved_of e.phase e.level low high))
    e
