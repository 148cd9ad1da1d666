-- A tick leaves a state in range. Assumes nothing.
use Rattle.std.proofs.Common.{◌≡◌, ℕ, ◌+◌, ◌-◌, ◌%◌, ◌≤◌, Bool, true, false, cond, eqb, ℤ, refl, arith}
use borrow.Author.Tests.{eqb-false}
use Rattle.noise.proofs.Range.{ticked_in}
use Rattle.soundram.specs.Address.{Sized}
use Rattle.soundram.specs.Calls.{Reply}
use Rattle.soundram.proofs.Programs.{Always, ends, always_any, always_bind}
use Rattle.voices.specs.declared.Sums.{Sums}
use Rattle.voices.proofs.Turns.{voices_in}
use Rattle.chip.specs.declared.Reverb.{Reverb}
use Rattle.chip.specs.State.{State, base_of}
use Rattle.chip.specs.Range.{PlaceIn, InRange}
use Rattle.chip.proofs.Tests.{sized}
use Rattle.chip.proofs.Ranges.{placed_even, placed_most}
use Rattle.stereo.specs.declared.Stereo.{Stereo}
use Rattle.tick.specs.Tick.{place_after, reverb_after, reverb_of, tick_of}

moved_place : {size base place : ℕ} (right : Bool) → Sized size → base % 2 ≡ 0 → base ≤ size - 2 → PlaceIn size base place → PlaceIn size base (place_after size base right place)
unfolding place_after
moved_place false z e m p = p
moved_place {size} {base} {place} true z e m p = by (eqb (place + 2) size) refl
  where
    by : (b : Bool) → eqb (place + 2) size ≡ b → PlaceIn size base (cond b base (place + 2))
    by true t = record { even = e; least = omega arith; most = m }
    by false t =
        let v = p.even in
        let l = p.least in
        let h = p.most in
        let n = eqb-false (place + 2) size t in
        record { even = omega arith; least = omega arith; most = omega arith }

reverb_in : {s : State} (sums : Sums) (left right : ℤ) → InRange s
    → Always (λ (r : Reverb). PlaceIn s.choices.size (base_of s).0 r.place.0) (reverb_of s.regs s.choices.size s.reverb sums left right)
unfolding reverb_of reverb_after
reverb_in {s} sums left right r =
    let z = sized _ r.size in
    always_bind (always_any _) (λ out _. ends (moved_place s.reverb.right z (placed_even _ z) (placed_most _ z)
    r.place))

pub tick_in : {s : State} (left right : ℤ) → InRange s → Always (λ (a : Reply (Stereo ℤ) State). InRange a.state) (tick_of s left right)
unfolding tick_of
tick_in {s} left right r =
    let e = r.capture.even in
    always_bind (voices_in s.regs _ 24 _ (sized _ r.size) (omega arith) (record { all = r.voices; count = r.shaped.voices })) (λ b i.
    always_bind (always_any _) (λ _ _.
    always_bind (reverb_in b.sums left right r) (λ v p.
    ends (record { shaped = record { regs = r.shaped.regs; voices = i.count }; size = r.size; voices = i.all; capture = record { even = omega arith; below = omega arith }; place = p; transfer = r.transfer; noise = ticked_in s.noise _ r.noise })
    )))
