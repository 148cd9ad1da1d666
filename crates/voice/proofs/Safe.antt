-- All that a voice reads is counted, so its programs are safe. Assumes nothing.
use Prim.Native.Nat.{ℕ}
use lib.Dec.{ltb}
use lib.IntN.{ℤ}
use Rattle.soundram.specs.declared.Reader.{Reader}
use Rattle.soundram.specs.TwoRuns.{Safe}
use Rattle.soundram.proofs.TwoRuns.{safe_done, safe_bind, safe_branch}
use Rattle.soundram.proofs.Blocks.{safe_bytes}
use Rattle.voice.specs.declared.Voice.{Voice}
use Rattle.voice.specs.declared.Settings.{Settings}
use Rattle.voice.specs.Voice.{filled_of, load_of, ready_of, stepped_of, target_of, arrive_of, moves_of, is_idle, tick_of}

safe_load : (who : Reader) (size : ℕ) (v : Voice) → Safe (load_of who size v)
unfolding load_of
safe_load who size v = safe_bind (safe_bytes who size v.source.address 8) (λ bytes. safe_done (filled_of v bytes))

safe_ready : (who : Reader) (size : ℕ) (v : Voice) → Safe (ready_of who size v)
unfolding ready_of
safe_ready who size v = safe_branch v.playing.loaded (safe_done v) (safe_load who size v)

safe_arrive : (who : Reader) (size i : ℕ) (v : Voice) → Safe (arrive_of who size i v)
unfolding arrive_of
safe_arrive who size i v = safe_branch (ltb 27 i) (safe_load who size _) (safe_done _)

safe_moves : (who : Reader) (size : ℕ) (s : Settings) (below : ℤ) (v : Voice) → Safe (moves_of who size s below v)
unfolding moves_of
safe_moves who size s below v = safe_arrive who size (target_of s below v) (stepped_of s below v)

pub safe_tick : (who : Reader) (size : ℕ) (s : Settings) (below : ℤ) (level : ℕ) (v : Voice) → Safe (tick_of who size s below level v)
unfolding tick_of
safe_tick who size s below level v =
    safe_branch (is_idle v.envelope.phase) (safe_done _)
    (safe_bind (safe_ready who size v) (λ w. safe_bind (safe_moves who size s below w) (λ x. safe_done _)))
