-- What the registers say about a voice in most ticks. Assumes nothing.
use Rattle.std.specs.Prelude.{◌≡◌, Option, Some, None, cond, false, ◌||◌, List, ℕ, ◌<◌, get_or, pos}
use Rattle.pitch.specs.Pitch.{step_of}
use Rattle.voice.specs.declared.Settings.{Settings}
use Rattle.voices.specs.Voices.{settings_of}

-- t agrees with a voice's settings s in all that every tick looks at; its envelope's rates may differ
pub record Toned (s t : Settings) : Type 0 where
  pub pitch : t.pitch ≡ s.pitch
  pub modulated : t.modulated ≡ s.modulated
  pub noise : t.noise ≡ s.noise

-- the pitch step of a voice that plays its samples and is not modulated, whatever the voice below gives; none for any other voice
unfoldable pub steady_of : Settings → Option ℕ
steady_of s = cond (s.noise || s.modulated) None (Some (step_of s.pitch false (pos 0)))

-- those of all voices
pub record Steps (regs : List ℕ) (steps : List (Option ℕ)) : Type 0 where
  pub each : (n : ℕ) → n < 24 → get_or steps n None ≡ steady_of (settings_of regs n)
