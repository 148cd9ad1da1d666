-- The capture. Assumes nothing.
use Rattle.std.specs.Prelude.{ℕ, ◌+◌, ◌/◌, ◌%◌, ℤ}
use Rattle.fixed.specs.Signed.{bits_of}
use Rattle.soundram.specs.Program.{Prog, bind, put}
use Rattle.voices.specs.declared.Captured.{Captured}

-- "Raw CD left, right, amplitudes of voices 1 and 3 go to 000h, 400h, 800h, C00h plus the place; the place moves 2, from 3FEh to 0."

abbrev pub capture_at : ℕ → ℕ → ℤ → Prog (Unit {0})
capture_at area place x = put ((area + place) / 2) (bits_of 16 x)

-- two areas, 400h apart
unfoldable pub capture_both : ℕ → ℕ → ℤ → ℤ → Prog (Unit {0})
capture_both area place x y = bind (capture_at area place x) (λ _. capture_at (area + 0x400) place y)

unfoldable pub capture_of : ℕ → ℤ → ℤ → Captured → Prog (Unit {0})
capture_of place left right c = bind (capture_both 0x000 place left right) (λ _. capture_both 0x800 place c.first c.third)

abbrev pub capture_next : ℕ → ℕ
capture_next place = (place + 2) % 0x400
