-- What a voice gives, from what the code's parts give. Assumes nothing.
use mathlib.Core.Path.{◌≡◌}
use mathlib.Core.Bool.{true, false}
use Prim.Native.Nat.{ℕ, ◌+◌}
use native.Mathlib.Omega.{arith}
use lib.ListN.{get_or}
use lib.IntN.{ℤ, pos}
use Rattle.fixed.specs.Signed.{signed}
use Rattle.gauss.specs.Gauss.{index_of, interpolated_of}
use Rattle.voice.specs.declared.Voice.{Voice}
use Rattle.voice.specs.declared.Settings.{Settings}
use Rattle.voice.specs.Voice.{sample_at, sound_of}

module _ (s : Settings) (level : ℕ) (v : Voice) where
  pub sound_noise : {r x : ℤ} → s.noise ≡ true → x ≡ signed 16 level → r ≡ x → r ≡ sound_of s level v
  unfolding sound_of
  sound_noise t p q = rw (t, q, p)

  pub sound_samples : {r x a b c d : ℤ} {k : ℕ} → s.noise ≡ false → k ≡ index_of v.position.counter → x ≡ interpolated_of k a b c d
      → a ≡ get_or v.playing.samples v.position.index (pos 0) → b ≡ sample_at v 1 → c ≡ sample_at v 2 → d ≡ sample_at v 3 → r ≡ x → r ≡ sound_of s level v
  unfolding sound_of
  sound_samples t i p a b c d q =
      let z : v.position.index + 0 ≡ v.position.index = omega arith in
      rw (t, q, p, i, a, b, c, d, z)
