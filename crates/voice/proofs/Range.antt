-- A voice stays in range, whatever is read and whatever the registers hold. Assumes nothing.
use mathlib.Core.Path.{◌≡◌, refl, sym, ◌∙◌}
use mathlib.Core.Bool.{Bool, true, false, cond, not, ◌&&◌, false≢true}
use mathlib.Core.List.{List}
use Prim.Native.Nat.{ℕ, ◌+◌, ◌%◌, ◌≤◌, ◌<◌}
use native.Mathlib.Omega.{arith}
use lib.Dec.{ltb}
use lib.IntN.{ℤ}
use borrow.Author.Tests.{ltb-false}
use Rattle.fixed.specs.Bits.{bit}
use Rattle.envelope.specs.declared.Phase.TheVariants.{Attack, Release, Off}
use Rattle.envelope.specs.declared.Envelope.{Envelope}
use Rattle.envelope.specs.Adsr.{active, entered_of}
use Rattle.envelope.specs.Range as envelope
use Rattle.envelope.proofs.Range.{entered_in as envelope_entered, ticked_in as envelope_ticked}
use Rattle.pitch.specs.declared.Moved.{Moved}
use Rattle.pitch.specs.Pitch.{step_of, moved_of}
use Rattle.pitch.proofs.Laws.{step_most, moved_counter, moved_most}
use Rattle.soundram.specs.declared.UnitAddress.{UnitAddress}
use Rattle.soundram.specs.declared.Reader.{Reader}
use Rattle.soundram.specs.Address.{address_of, forward_of, Sized}
use Rattle.soundram.specs.Program.{Mem, Does, bytes_from}
use Rattle.soundram.proofs.Addresses.{address_below, address_multiple, forward_below, forward_multiple}
use Rattle.soundram.proofs.Programs.{Always, ends, always_any, always_bind, always_branch, always_does}
use Rattle.voice.specs.declared.Source.{Source}
use Rattle.voice.specs.declared.Voice.{Voice}
use Rattle.voice.specs.declared.Settings.{Settings}
use Rattle.voice.specs.Range.{InRange}
use Rattle.voice.specs.Voice.{with_envelope, with_position, fresh, keyed_on, goes_off, keyed_off, stopped_of, looped_of, filled_of, load_of, next_of, muted_of, ended_of, ready_of, stepped_of, target_of, arrive_of, moves_of, is_idle, Tick, tick_of}

-- ---- parts

-- an envelope without steps
pub quiet : {e : Envelope} → e.level ≡ 0 → e.wait ≡ 0 → active e.phase ≡ false → envelope.InRange e
quiet l w a = record { level = omega arith; wait = omega arith; runs = λ t. absurd (false≢true (sym a ∙ t)) }

enveloped : {size : ℕ} {v : Voice} {e : Envelope} → InRange size v → envelope.InRange e → InRange size (with_envelope v e)
enveloped r e = record { envelope = e; counter = r.counter; index = r.index; multiple = r.multiple; below = r.below }

placed : {size : ℕ} {v : Voice} {counter index : ℕ} → InRange size v → counter < 0x1000 → index ≤ 27 → InRange size (with_position v counter index)
placed r c i = record { envelope = r.envelope; counter = c; index = i; multiple = r.multiple; below = r.below }

-- ---- keys

pub fresh_in : {size : ℕ} → Sized size → InRange size fresh
unfolding fresh
fresh_in s = record { envelope = quiet refl refl refl; counter = omega arith; index = omega arith; multiple = refl; below = omega arith }

pub keyed_on_in : {size : ℕ} (start : UnitAddress) (low high : ℕ) → Sized size → InRange size (keyed_on size start low high)
unfolding keyed_on fresh
keyed_on_in {size} start low high s =
    record {
      envelope = envelope_entered Attack 0 low high (omega arith);
      counter = omega arith;
      index = omega arith;
      multiple = address_multiple size start (omega arith);
      below = address_below size start (omega arith);
    }

pub keyed_off_in : {size : ℕ} (v : Voice) (low high : ℕ) → InRange size v → InRange size (keyed_off v low high)
unfolding keyed_off
keyed_off_in {size} v low high r = by (goes_off v.envelope.phase)
  where
    by : (b : Bool) → InRange size (cond b (with_envelope v (entered_of Release v.envelope.level low high)) v)
    by true = enveloped r (envelope_entered Release v.envelope.level low high r.envelope.level)
    by false = r

pub stopped_in : {size : ℕ} (v : Voice) → InRange size v → InRange size (stopped_of v)
unfolding stopped_of fresh
stopped_in v r = enveloped r (quiet refl refl refl)

-- ---- load and end rule

filled_in : {size : ℕ} (v : Voice) (bytes : List ℕ) → InRange size v → InRange size (filled_of v bytes)
unfolding filled_of looped_of
filled_in v bytes r = record { envelope = r.envelope; counter = r.counter; index = r.index; multiple = r.multiple; below = r.below }

load_in : {size : ℕ} (who : Reader) (v : Voice) → InRange size v → Always (InRange size) (load_of who size v)
unfolding load_of
load_in {size} who v r = always_bind (always_any (bytes_from who size v.source.address 8)) (λ bytes _. ends (filled_in v bytes r))

next_multiple : (size : ℕ) (s : Source) (flags : ℕ) → Sized size → s.address.0 % 8 ≡ 0 → (next_of size s flags).address.0 % 8 ≡ 0
unfolding next_of
next_multiple size s flags z m = by (bit 0 flags)
  where
    by : (c : Bool) → (cond c (address_of size s.repeat) (forward_of size s.address 16)).0 % 8 ≡ 0
    by true = address_multiple size s.repeat (omega arith)
    by false = forward_multiple 8 size s.address 16 (omega arith) (omega arith)

next_below : (size : ℕ) (s : Source) (flags : ℕ) → Sized size → s.address.0 < size → (next_of size s flags).address.0 < size
unfolding next_of
next_below size s flags z b = by (bit 0 flags)
  where
    by : (c : Bool) → (cond c (address_of size s.repeat) (forward_of size s.address 16)).0 < size
    by true = address_below size s.repeat (omega arith)
    by false = forward_below size s.address _ 16 refl b

muted_in : (e : Envelope) (flags : ℕ) → envelope.InRange e → envelope.InRange (muted_of e flags)
unfolding muted_of
muted_in e flags i = by (bit 0 flags && not (bit 1 flags))
  where
    by : (b : Bool) → envelope.InRange (cond b (record { phase = Off; level = 0; wait = 0 }) e)
    by true = quiet refl refl refl
    by false = i

pub ended_in : {size : ℕ} (v : Voice) → Sized size → InRange size v → InRange size (ended_of size v)
unfolding ended_of
ended_in {size} v z r =
    record {
      envelope = muted_in v.envelope v.playing.flags r.envelope;
      counter = r.counter;
      index = r.index;
      multiple = next_multiple size v.source v.playing.flags z r.multiple;
      below = next_below size v.source v.playing.flags z r.below;
    }

pub ended_below : (size : ℕ) (v : Voice) {x : Voice} → x ≡ ended_of size v → Sized size → v.source.address.0 < size → x.source.address.0 < size
unfolding ended_of
ended_below size v e z b = rw e (next_below size v.source v.playing.flags z b)

-- ---- one tick

ready_in : {size : ℕ} (who : Reader) (v : Voice) → InRange size v → Always (InRange size) (ready_of who size v)
unfolding ready_of
ready_in who v r = always_branch v.playing.loaded (λ _. ends r) (λ _. load_in who v r)

-- at most four samples are moved
pub moved_small : (v : Voice) (p : ℕ) {r : Moved} → r ≡ moved_of v.position.counter p → v.position.counter < 0x1000 → v.position.index ≤ 27 → p ≤ 0x4000 → v.position.index + r.moves < 32
moved_small v p e c i h = let m = moved_most v.position.counter p c h in rw e (omega arith)

pub moves_small : (s : Settings) (v : Voice) (below : ℤ) {p : ℕ} {r : Moved} → p ≡ step_of s.pitch s.modulated below → r ≡ moved_of v.position.counter p
    → v.position.counter < 0x1000 → v.position.index ≤ 27 → v.position.index + r.moves < 32
moves_small s v below e f c i = moved_small v _ f c i (rw e (step_most s.pitch s.modulated below))

target_small : (s : Settings) (below : ℤ) (v : Voice) → v.position.counter < 0x1000 → v.position.index ≤ 27 → target_of s below v < 32
unfolding target_of
target_small s below v c i = moves_small s v below refl refl c i

stepped_in : {size : ℕ} (s : Settings) (below : ℤ) (v : Voice) → InRange size v → InRange size (stepped_of s below v)
unfolding stepped_of
stepped_in s below v r =
    placed (enveloped r (envelope_ticked v.envelope s.low s.high r.envelope)) (moved_counter v.position.counter (step_of s.pitch s.modulated below)) r.index

arrive_in : {size : ℕ} (who : Reader) (i : ℕ) (v : Voice) → Sized size → i < 32 → InRange size v → Always (InRange size) (arrive_of who size i v)
unfolding arrive_of
arrive_in who i v z l r =
    always_branch (ltb 27 i)
    (λ e. load_in who _ (ended_in _ z (placed r r.counter (omega arith))))
    (λ e. ends (placed r r.counter (omega (arith, ltb-false 27 i e))))

moves_in : {size : ℕ} (who : Reader) (s : Settings) (below : ℤ) (v : Voice) → Sized size → InRange size v → Always (InRange size) (moves_of who size s below v)
unfolding moves_of
moves_in who s below v z r = arrive_in who _ _ z (target_small s below v r.counter r.index) (stepped_in s below v r)

-- of a function that takes the steps
pub stepped_below : {size : ℕ} (s : Settings) (below : ℤ) (v : Voice) {w : Voice} → w ≡ stepped_of s below v → v.source.address.0 < size → w.source.address.0 < size
unfolding stepped_of
stepped_below s below v e b = rw e b

pub tick_in : {size : ℕ} (who : Reader) (s : Settings) (below : ℤ) (level : ℕ) (v : Voice) → Sized size → InRange size v
    → Always (λ (t : Tick). InRange size t.voice) (tick_of who size s below level v)
unfolding tick_of
tick_in who s below level v z r =
    always_branch (is_idle v.envelope.phase) (λ _. ends r)
    (λ _. always_bind (ready_in who v r) (λ w q. always_bind (moves_in who s below w z q) (λ x p. ends p)))

-- of a function that does the program
pub ready_range : (size : ℕ) (who : Reader) (v : Voice) {w : Voice} {m n : Mem} → Does (ready_of who size v) m w n → InRange size v → InRange size w
ready_range size who v d r = always_does (ready_in who v r) d

pub ready_index : (size : ℕ) (who : Reader) (v : Voice) {w : Voice} {m n : Mem} → Does (ready_of who size v) m w n → InRange size v → w.position.index ≤ 27
ready_index size who v d r = (ready_range size who v d r).index

pub ready_level : (size : ℕ) (who : Reader) (v : Voice) {w : Voice} {m n : Mem} → Does (ready_of who size v) m w n → InRange size v → w.envelope.level ≤ 0x7FFF
ready_level size who v d r = (ready_range size who v d r).envelope.level

pub tick_range : (size : ℕ) (who : Reader) (s : Settings) (below : ℤ) (level : ℕ) (v : Voice) {t : Tick} {m n : Mem} → Does (tick_of who size s below level v) m t n
    → Sized size → InRange size v → InRange size t.voice
tick_range size who s below level v d z r = always_does (tick_in who s below level v z r) d
