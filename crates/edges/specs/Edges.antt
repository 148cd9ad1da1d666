-- The edges that document 01 marks [P], proved together: a table of what the definitions give and what the paper says, and one
-- statement. Assumes nothing.
use Rattle.std.specs.Prelude.{◌≡◌, refl, true, false, List, [], ◌∷◌, map, ℕ, zero, suc, ℤ, pos, negsuc}
use Rattle.std.specs.Int.Count.{ones_in, ones}
use Rattle.fixed.specs.Signed.{signed, modulo_of, bits_of}
use Rattle.fixed.specs.Arithmetic.{saturated, product_of, volume_of}
use Rattle.adpcm.specs.declared.Header.{Header}
use Rattle.adpcm.specs.Adpcm.{predicted_of, sample_of}
use Rattle.envelope.specs.declared.Phase.{Phase}
use Rattle.envelope.specs.declared.Phase.TheVariants.{Attack, Decay, Sustain}
use Rattle.envelope.specs.declared.Envelope.{Envelope}
use Rattle.envelope.specs.Adsr.{rate_of, sustain_level, cycles_of, step_of, clamped, wait_of, entered_of, phase_after, moved_of, ticked_of}
use Rattle.noise.specs.Noise.{parity_of, shifted_of}
use Rattle.pitch.specs.Pitch.{limited, modulated_of, step_of as pitch_step}

-- what an edge speaks of: a number, or an envelope's levels, one a tick, and its phase after them
pub data Value : Type 0 where
  number : ℤ → Value
  levels : List ℕ → Phase → Value

pub record Edge : Type 0 where
  pub is : Value
  pub shall : Value

-- the levels after each of n ticks, and the envelope after them, with the two ADSR halfwords
levels_of : ℕ → Envelope → ℕ → ℕ → List ℕ
levels_of zero e low high = []
levels_of (suc n) e low high = let f = ticked_of e low high in f.level ∷ levels_of n f low high

after : ℕ → Envelope → ℕ → ℕ → Envelope
after zero e low high = e
after (suc n) e low high = after n (ticked_of e low high) low high

run : ℕ → Envelope → ℕ → ℕ → Value
run n e low high = levels (levels_of n e low high) (after n e low high).phase

-- the header of shift 0 and filter 1
header : Header
header = record { shift = 0; filter = 1 }

numbers : ℤ → ℤ → Edge
numbers a b = record { is = number a; shall = number b }

pub edges : List Edge
edges =
    -- "pitch 3FFFh steps 3FFFh; 4001h steps 4000h; 8000h modulated by -8000h steps 0, by -7FFFh steps 4000h; 1000h by 7FFFh steps 1FFFh"
    numbers (pos (pitch_step 0x3FFF false (pos 0))) (pos 0x3FFF) ∷
    numbers (pos (pitch_step 0x4001 false (pos 0))) (pos 0x4000) ∷
    numbers (pos (pitch_step 0x8000 true (negsuc 0x7FFF))) (pos 0) ∷
    numbers (pos (pitch_step 0x8000 true (negsuc 0x7FFE))) (pos 0x4000) ∷
    numbers (pos (pitch_step 0x1000 true (pos 0x7FFF))) (pos 0x1FFF) ∷
    -- "volume 3FFFh is 7FFEh; 4000h is -8000h; 7FFFh is -2"
    numbers (volume_of 0x3FFF) (pos 0x7FFE) ∷
    numbers (volume_of 0x4000) (negsuc 0x7FFF) ∷
    numbers (volume_of 0x7FFF) (negsuc 1) ∷
    -- "nibble 0, filter 1, old -1: -1. Nibble 7, shift 0, filter 1, old 7FFFh: 7FFFh"
    numbers (sample_of 0 header (negsuc 0) (pos 0)) (negsuc 0) ∷
    numbers (sample_of 7 header (pos 0x7FFF) (pos 0)) (pos 0x7FFF) ∷
    -- "attack linear, shift 0, value 7: 3800h, 7000h, 7FFFh. Decay shift 0 from 7FFFh, N = 3: 3FFFh, 1FFFh, then Sustain"
    record { is = run 3 (entered_of Attack 0 0x0003 0) 0x0003 0; shall = levels (0x3800 ∷ 0x7000 ∷ 0x7FFF ∷ []) Decay } ∷
    record { is = run 2 (entered_of Decay 0x7FFF 0x0003 0) 0x0003 0; shall = levels (0x3FFF ∷ 0x1FFF ∷ []) Sustain } ∷
    -- "noise 0 goes to 1; 7FFh to FFEh; FFEh to 1FFDh"
    numbers (pos (shifted_of 0)) (pos 1) ∷
    numbers (pos (shifted_of 0x7FF)) (pos 0xFFE) ∷
    numbers (pos (shifted_of 0xFFE)) (pos 0x1FFD) ∷ []

-- all of them hold
pub edges_hold : map (λ (e : Edge). e.is) edges ≡ map (λ (e : Edge). e.shall) edges
unfolding edges numbers header run levels_of after pitch_step limited modulated_of signed modulo_of bits_of product_of volume_of saturated predicted_of sample_of rate_of sustain_level cycles_of step_of clamped wait_of entered_of phase_after moved_of ticked_of parity_of shifted_of ones_in ones
edges_hold = refl
