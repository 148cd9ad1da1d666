-- The phase after a step. Assumes nothing.
use mathlib.Core.Path.{◌≡◌, refl}
use mathlib.Core.Logic.{◌⊎◌, inl, inr}
use Prim.Native.Nat.{ℕ, ◌≤◌, ◌<◌}
use borrow.Author.Tests.{eq-eqb, ne_eqb, le-leb, lt-leb}
use Rattle.envelope.specs.declared.Phase.{Phase}
use Rattle.envelope.specs.declared.Phase.TheVariants.{Idle, Attack, Decay, Sustain, Release, Off}
use Rattle.envelope.specs.Adsr.{sustain_level, phase_after}

module _ {p : Phase} (level low : ℕ) where
  -- no level ends it
  pub endless : (p ≡ Idle) ⊎ ((p ≡ Sustain) ⊎ (p ≡ Off)) → p ≡ phase_after p level low
  unfolding phase_after
  endless (inl e) = rw e refl
  endless (inr (inl e)) = rw e refl
  endless (inr (inr e)) = rw e refl

  pub attack_ends : p ≡ Attack → level ≡ 0x7FFF → Decay ≡ phase_after p level low
  unfolding phase_after
  attack_ends e h = rw (e, eq-eqb level 0x7FFF h) refl

  pub attack_stays : p ≡ Attack → (level ≡ 0x7FFF → ⊥) → p ≡ phase_after p level low
  unfolding phase_after
  attack_stays e h = rw (e, ne_eqb level 0x7FFF h) refl

  -- s is the sustain level
  pub decay_ends : {s : ℕ} → p ≡ Decay → s ≡ sustain_level low → level ≤ s → Sustain ≡ phase_after p level low
  unfolding phase_after
  decay_ends {s} e q h = rw (e, ← q, le-leb level s h) refl

  pub decay_stays : {s : ℕ} → p ≡ Decay → s ≡ sustain_level low → s < level → p ≡ phase_after p level low
  unfolding phase_after
  decay_stays {s} e q h = rw (e, ← q, lt-leb level s h) refl

  pub release_ends : p ≡ Release → level ≡ 0 → Off ≡ phase_after p level low
  unfolding phase_after
  release_ends e h = rw (e, eq-eqb level 0 h) refl

  pub release_stays : p ≡ Release → (level ≡ 0 → ⊥) → p ≡ phase_after p level low
  unfolding phase_after
  release_stays e h = rw (e, ne_eqb level 0 h) refl
