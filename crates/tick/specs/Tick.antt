-- One tick, in document 01's order: control, noise, voices, mix, capture, reverb, tick number. Assumes nothing.
use Rattle.std.specs.Prelude.{ℕ, ◌+◌, ◌%◌, ◌^◌, Bool, true, false, cond, not, ◌&&◌, List, ℤ, pos, ◌+ℤ◌, ◌==◌}
use Rattle.fixed.specs.Bits.{bit}
use Rattle.fixed.specs.Signed.{signed}
use Rattle.fixed.specs.Arithmetic.{saturated, product_of, volume_of}
use Rattle.noise.specs.declared.Noise.{Noise}
use Rattle.noise.specs.Noise.{ticked_of}
use Rattle.soundram.specs.Program.{Prog, done, bind, repeat}
use Rattle.soundram.specs.Calls.{Reply}
use Rattle.registers.specs.Map.{register_at}
use Rattle.voices.specs.declared.Sums.{Sums}
use Rattle.voices.specs.Voices.{no_sums, voice_at}
use Rattle.capture.specs.Capture.{capture_of, capture_next}
use Rattle.reverb.specs.declared.Area.{Area}
use Rattle.reverb.specs.declared.Turning.{Turning}
use Rattle.reverb.specs.Reverb.{side_of, turn_of}
use Rattle.stereo.specs.declared.Stereo.{Stereo}
use Rattle.chip.specs.declared.Reverb.{Reverb}
use Rattle.chip.specs.State.{State, base_at}
use Rattle.tick.specs.declared.Rest.{Rest}

-- ---- mix

-- "CD·volume/8000h joins if bit 0."
unfoldable pub cd_of : List ℕ → ℕ → ℤ → ℤ
cd_of regs offset cd = cond (bit 0 (register_at regs 0x1AA)) (product_of cd (signed 16 (register_at regs offset))) (pos 0)

-- "Voices sum to a saturated total, zeroed in the mix when SPUCNT bit 14 is clear, as is reverb output. .. The saturated sum times main volume /8000h,
-- saturated, is the answer."
unfoldable pub mix_of : List ℕ → ℤ → ℤ → ℤ → ℕ → ℤ
mix_of regs total held cd main =
    let heard = cond (bit 14 (register_at regs 0x1AA)) (saturated total +ℤ held) (pos 0) in
    saturated (product_of (saturated (heard +ℤ cd)) (volume_of (register_at regs main)))

unfoldable pub pair_of : List ℕ → Stereo ℤ → Sums → ℤ → ℤ → Stereo ℤ
pair_of regs held sums left right =
    record {
      left = mix_of regs sums.dry.left held.left (cd_of regs 0x1B0 left) 0x180;
      right = mix_of regs sums.dry.right held.right (cd_of regs 0x1B2 right) 0x182;
    }

-- ---- reverb

-- "Counted: .. every reverb read, unless bit 7 is clear and that side's output volume is 0."
unfoldable pub turning_of : List ℕ → Bool → Turning
turning_of regs right =
    let on = bit 7 (register_at regs 0x1AA) in
    record { right = right; counted = not (not on && register_at regs (0x184 + side_of right) == 0); writes = on }

-- "input is the saturated sum of EON voices' sides and, if bits 0 and 2, CD after its volume"
unfoldable pub input_of : List ℕ → ℤ → ℤ → ℤ
input_of regs wet cd = saturated (wet +ℤ cond (bit 2 (register_at regs 0x1AA)) cd (pos 0))

-- "the place moves 2 after right, from L-2 to the base"
unfoldable pub place_after : ℕ → ℕ → Bool → ℕ → ℕ
place_after size base right place = cond right (cond (place + 2 == size) base (place + 2)) place

-- "Each side's output .. is held till its next turn"
unfoldable pub held_of : Bool → Stereo ℤ → ℤ → Stereo ℤ
held_of right h out = record { left = cond right h.left out; right = cond right out h.right }

unfoldable pub reverb_after : ℕ → ℕ → Reverb → ℤ → Reverb
reverb_after size base r out =
    record {
      place = record { 0 = place_after size base r.right r.place.0 };
      right = not r.right;
      held = held_of r.right r.held out;
    }

abbrev pub area_of : ℕ → ℕ → Reverb → Area
area_of size base r = record { size = size; base = base; place = r.place.0 }

-- of the turn's side: what enters
unfoldable pub entering_of : List ℕ → Bool → Sums → ℤ → ℤ → ℤ
entering_of regs false sums left right = input_of regs sums.wet.left (cd_of regs 0x1B0 left)
entering_of regs true sums left right = input_of regs sums.wet.right (cd_of regs 0x1B2 right)

unfoldable pub reverb_of : List ℕ → ℕ → Reverb → Sums → ℤ → ℤ → Prog Reverb
reverb_of regs size r sums left right =
    let base = (base_at size regs).0 in
    bind (turn_of regs (area_of size base r) (turning_of regs r.right) (entering_of regs r.right sums left right)) (λ out. done (reverb_after size base r out))

-- ---- what is left of a tick once its voices have played, of their sums and of this tick's noise

pub record Closing : Type 0 where
  pub pair : Stereo ℤ
  pub rest : Rest

unfoldable pub close_of : List ℕ → ℕ → Rest → Noise → Sums → ℤ → ℤ → Prog Closing
close_of regs size r noise sums left right =
    bind (capture_of r.capture left right sums.captured) (λ _.
    bind (reverb_of regs size r.reverb sums left right) (λ v.
    done (record {
      pair = pair_of regs r.reverb.held sums left right;
      rest =
          record { noise = noise; applied = register_at regs 0x1AA % 0x40; capture = capture_next r.capture; reverb = v; tick = (r.tick + 1) % 2 ^ 32 };
    })))

-- ---- the whole tick, of the raw CD pair

unfoldable pub tick_of : State → ℤ → ℤ → Prog (Reply (Stereo ℤ) State)
tick_of s left right =
    let spucnt = register_at s.regs 0x1AA in
    let noise = ticked_of s.noise spucnt in
    bind (repeat (voice_at s.choices.size s.regs noise.level) 24 (record { voices = s.voices; sums = no_sums })) (λ b.
    bind (capture_of s.capture left right b.sums.captured) (λ _.
    bind (reverb_of s.regs s.choices.size s.reverb b.sums left right) (λ r.
    done (record {
      answer = pair_of s.regs s.reverb.held b.sums left right;
      state =
          record {
            choices = s.choices;
            regs = s.regs;
            voices = b.voices;
            noise = noise;
            control = record { applied = spucnt % 0x40; latch = s.control.latch; doubt = s.control.doubt };
            capture = capture_next s.capture;
            reverb = r;
            transfer = s.transfer;
            tick = (s.tick + 1) % 2 ^ 32;
          };
    }))))
