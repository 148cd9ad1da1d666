-- The voices that the calls give are in range. Assumes nothing.
use Rattle.std.proofs.Common.{◌≡◌, ℕ, ℤ}
use Rattle.soundram.specs.declared.Reader.{Reader}
use Rattle.soundram.specs.declared.UnitAddress.{UnitAddress}
use Rattle.soundram.specs.Address.{Sized}
use Rattle.soundram.specs.Program.{Mem, Does}
use Rattle.voice.specs.declared.Voice.{Voice}
use Rattle.voice.specs.declared.Settings.{Settings}
use Rattle.voice.specs.Range.{InRange}
use Rattle.voice.specs.Voice.{keyed_on, keyed_off, tick_of}
use Rattle.voice.proofs.Range.{keyed_on_in, keyed_off_in, tick_range}

pub on_range : (size : ℕ) (start : UnitAddress) (low high : ℕ) {v : Voice} → v ≡ keyed_on size start low high → Sized size → InRange size v
on_range size start low high e s = rw e (keyed_on_in start low high s)

pub off_range : (size : ℕ) (v : Voice) (low high : ℕ) {w : Voice} → w ≡ keyed_off v low high → InRange size v → InRange size w
off_range size v low high e r = rw e (keyed_off_in v low high r)

pub ticked_range : (size : ℕ) (who : Reader) (s : Settings) (below : ℤ) (level : ℕ) (v : Voice) {w : Voice} {a : ℤ} {m n : Mem}
    → Does (tick_of who size s below level v) m (record { voice = w; amplitude = a }) n → Sized size → InRange size v → InRange size w
ticked_range size who s below level v d z r = tick_range size who s below level v d z r
