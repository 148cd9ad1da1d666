-- Key on, key off and the end rule, from what their parts give. Assumes nothing.
use mathlib.Core.Path.{◌≡◌}
use mathlib.Core.Bool.{Bool, true, false, not, ◌&&◌, ◌||◌}
use Prim.Native.Nat.{ℕ, ◌%◌, ◌/◌}
use lib.Dec.{eqb}
use borrow.Author.Tests.{eq-eqb, ne_eqb}
use Rattle.fixed.proofs.Bits.{bit_zero}
use Rattle.envelope.specs.declared.Phase.TheVariants.{Attack, Release, Off}
use Rattle.envelope.specs.declared.Envelope.{Envelope}
use Rattle.envelope.specs.Adsr.{entered_of}
use Rattle.soundram.specs.declared.ByteAddress.{ByteAddress}
use Rattle.soundram.specs.declared.UnitAddress.{UnitAddress}
use Rattle.soundram.specs.Address.{address_of, unit_of, forward_of}
use Rattle.voice.specs.declared.Source.{Source}
use Rattle.voice.specs.declared.Voice.{Voice}
use Rattle.voice.specs.Voice.{with_envelope, fresh, keyed_on, goes_off, keyed_off, stopped_of, looped_of, next_of, muted_of, ended_of}

pub keyed_on_lem : (size : ℕ) (start : UnitAddress) (low high : ℕ) {f : Voice} {e : Envelope} {a : ByteAddress} → f ≡ fresh
    → e ≡ entered_of Attack f.envelope.level low high → a ≡ address_of size start
    → record { envelope = e; source = record { address = a; repeat = start }; position = f.position; playing = f.playing; ended = f.ended } ≡ keyed_on size start low high
unfolding keyed_on
keyed_on_lem size start low high p q r = rw (q, r, p)

pub keyed_off_lem : (v : Voice) (low high : ℕ) {b : Bool} {e : Envelope} → b ≡ goes_off v.envelope.phase → b ≡ true
    → e ≡ entered_of Release v.envelope.level low high → with_envelope v e ≡ keyed_off v low high
unfolding keyed_off
keyed_off_lem v low high p t q = rw (← p, t, q)

pub keyed_still : (v : Voice) (low high : ℕ) {b : Bool} → b ≡ goes_off v.envelope.phase → b ≡ false → v ≡ keyed_off v low high
unfolding keyed_off
keyed_still v low high p t = rw (← p, t)

pub stopped : (v : Voice) {f : Voice} → f ≡ fresh → with_envelope v f.envelope ≡ stopped_of v
unfolding stopped_of
stopped v p = rw p

-- ---- the flags of a block

pub looped_start : (s : Source) (flags : ℕ) {u : UnitAddress} → flags / 4 % 2 ≡ 1 → u ≡ unit_of s.address → record { address = s.address; repeat = u } ≡ looped_of s flags
unfolding looped_of
looped_start s flags t p = rw (p, eq-eqb (flags / 4 % 2) 1 t)

pub looped_kept : (s : Source) (flags : ℕ) → (flags / 4 % 2 ≡ 1 → ⊥) → s ≡ looped_of s flags
unfolding looped_of
looped_kept s flags t = rw (ne_eqb (flags / 4 % 2) 1 t)

pub next_repeat : (size : ℕ) (s : Source) (flags : ℕ) {a : ByteAddress} → flags % 2 ≡ 1 → a ≡ address_of size s.repeat
    → record { address = a; repeat = s.repeat } ≡ next_of size s flags
unfolding next_of
next_repeat size s flags t p = rw (bit_zero flags, eq-eqb (flags % 2) 1 t, p)

pub next_block : (size : ℕ) (s : Source) (flags : ℕ) {a : ByteAddress} → (flags % 2 ≡ 1 → ⊥) → a ≡ forward_of size s.address 16
    → record { address = a; repeat = s.repeat } ≡ next_of size s flags
unfolding next_of
next_block size s flags t p = rw (bit_zero flags, ne_eqb (flags % 2) 1 t, p)

-- the test for a block that mutes
abbrev mutes : ℕ → Bool
mutes flags = eqb (flags % 2) 1 && not (eqb (flags / 2 % 2) 1)

pub muted_off : (e : Envelope) (flags : ℕ) → mutes flags ≡ true → record { phase = Off; level = 0; wait = 0 } ≡ muted_of e flags
unfolding muted_of
muted_off e flags t = rw (bit_zero flags, t)

pub muted_kept : (e : Envelope) (flags : ℕ) → mutes flags ≡ false → e ≡ muted_of e flags
unfolding muted_of
muted_kept e flags t = rw (bit_zero flags, t)

pub ended_as : (size : ℕ) (v : Voice) {e : Envelope} {s : Source} → e ≡ muted_of v.envelope v.playing.flags → s ≡ next_of size v.source v.playing.flags
    → record { envelope = e; source = s; position = v.position; playing = v.playing; ended = v.ended || eqb (v.playing.flags % 2) 1 } ≡ ended_of size v
unfolding ended_of
ended_as size v p q = rw (p, q, bit_zero v.playing.flags)
