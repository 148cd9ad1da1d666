-- A phase entered, a step and a tick, from what their parts give. Assumes nothing.
use mathlib.Core.Path.{◌≡◌, refl, sym, ◌∙◌}
use mathlib.Core.Bool.{Bool, true, false, not, ◌&&◌, false≢true}
use Prim.Native.Nat.{ℕ, ◌-◌, ◌≤◌, ◌<◌}
use lib.Dec.{ltb}
use lib.IntN.{ℤ, pos, ◌+ℤ◌}
use borrow.Author.Tests.{lt-ltb, le-ltb, not-true, not-false}
use Rattle.envelope.specs.declared.Phase.{Phase}
use Rattle.envelope.specs.declared.Rate.{Rate}
use Rattle.envelope.specs.declared.Envelope.{Envelope}
use Rattle.envelope.specs.Adsr.{rate_of, cycles_of, step_of, clamped, active, wait_of, entered_of, phase_after, moved_of, ticked_of}

module _ (phase : Phase) (level low high : ℕ) where
  pub entered_active : {b : Bool} {r : Rate} {n : ℕ} → b ≡ active phase → b ≡ true → r ≡ rate_of phase low high → n ≡ cycles_of r level
      → record { phase = phase; level = level; wait = n } ≡ entered_of phase level low high
  unfolding entered_of wait_of
  entered_active a t p q = rw (← a, t, q, p)

  pub entered_inactive : {b : Bool} → b ≡ active phase → b ≡ false
      → record { phase = phase; level = level; wait = 0 } ≡ entered_of phase level low high
  unfolding entered_of wait_of
  entered_inactive a t = rw (← a, t)

  pub moved_as : {r : Rate} {sum : ℤ} {next : ℕ} {after : Phase} {e : Envelope}
      → r ≡ rate_of phase low high → sum ≡ pos level +ℤ step_of r level → next ≡ clamped sum
      → after ≡ phase_after phase next low → e ≡ entered_of after next low high → e ≡ moved_of phase level low high
  unfolding moved_of
  moved_as p s n a e = cc

module _ (e : Envelope) (low high : ℕ) {b : Bool} (a : b ≡ active e.phase) where
  pub ticked_inactive : not b ≡ true → e ≡ ticked_of e low high
  unfolding ticked_of
  ticked_inactive t = rw (← a, not-true b t)

  pub ticked_waits : not b ≡ false → 1 < e.wait → record { phase = e.phase; level = e.level; wait = e.wait - 1 } ≡ ticked_of e low high
  unfolding ticked_of
  ticked_waits t w = rw (← a, not-false b t, lt-ltb 1 e.wait w)

  pub ticked_moves : {m : Envelope} → not b ≡ false → e.wait ≤ 1 → m ≡ moved_of e.phase e.level low high → m ≡ ticked_of e low high
  unfolding ticked_of
  ticked_moves t w q = rw (← a, not-false b t, le-ltb 1 e.wait w) q

-- an envelope of which the test says that it waits
module _ (e : Envelope) {b : Bool} (a : b ≡ (active e.phase && ltb 1 e.wait)) (t : b ≡ true) where
  parts : (p q : Bool) → (p && q) ≡ true → (p ≡ true) × (q ≡ true)
  parts true q f = (refl, f)
  parts false q f = absurd (false≢true f)

  pub waits_ticked : (low high : ℕ) → record { phase = e.phase; level = e.level; wait = e.wait - 1 } ≡ ticked_of e low high
  unfolding ticked_of
  waits_ticked low high = let p = parts (active e.phase) (ltb 1 e.wait) (sym a ∙ t) in rw (p.0, p.1)
