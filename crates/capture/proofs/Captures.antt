-- The programs of a capture, from what the code's parts do. Assumes nothing.
use mathlib.Core.Path.{◌≡◌}
use Prim.Native.Nat.{ℕ, ◌+◌, ◌/◌}
use lib.IntN.{ℤ}
use Rattle.fixed.specs.Signed.{bits_of}
use Rattle.soundram.specs.TwoRuns.{Safe}
use Rattle.soundram.specs.Program.{Mem, Does, put}
use Rattle.soundram.proofs.Programs.{does_bind}
use Rattle.soundram.proofs.TwoRuns.{safe_bind, safe_put}
use Rattle.voices.specs.declared.Captured.{Captured}
use Rattle.capture.specs.Capture.{capture_at, capture_both, capture_of}

pub capture_as : (area place : ℕ) (x : ℤ) {x' : ℤ} {v : ℕ} {m n : Mem} → x' ≡ x → v ≡ bits_of 16 x' → Does (put ((area + place) / 2) v) m tt n → Does (capture_at area place x) m tt n
capture_as area place x ex ev d = rw (ev, ex) at d

pub both_does : (area place : ℕ) (x y : ℤ) {x' y' : ℤ} {k m n : Mem} → x' ≡ x → y' ≡ y → Does (capture_at area place x') k tt m → Does (capture_at (area + 0x400) place y') m tt n
    → Does (capture_both area place x y) k tt n
unfolding capture_both
both_does area place x y ex ey d e = does_bind _ (rw ex at d) (rw ey at e)

pub capture_does : (place : ℕ) (left right : ℤ) (c : Captured) {l r a b : ℤ} {k m n : Mem} → l ≡ left → r ≡ right → a ≡ c.first → b ≡ c.third
    → Does (capture_both 0x000 place l r) k tt m → Does (capture_both 0x800 place a b) m tt n → Does (capture_of place left right c) k tt n
unfolding capture_of
capture_does place left right c el er ea eb d e = does_bind _ (rw (el, er) at d) (rw (ea, eb) at e)

pub safe_capture : (place : ℕ) (left right : ℤ) (c : Captured) → Safe (capture_of place left right c)
unfolding capture_of capture_both
safe_capture place left right c = safe_bind (safe_bind (safe_put _ _) (λ _. safe_put _ _)) (λ _. safe_bind (safe_put _ _) (λ _. safe_put _ _))
