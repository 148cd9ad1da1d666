-- A fresh state is in range, a state with another transfer address too, and so are the addresses that registers give. Assumes nothing.
use mathlib.Core.Path.{◌≡◌, refl, subst}
use mathlib.Core.Bool.{true}
use Prim.Native.Nat.{ℕ, ◌-◌, ◌%◌, ◌≤◌}
use native.Mathlib.Omega.{arith}
use lib.ListN.{get_or-replicate}
use Rattle.soundram.specs.declared.ByteAddress.{ByteAddress}
use Rattle.soundram.specs.declared.UnitAddress.{UnitAddress}
use Rattle.soundram.specs.Address.{address_of, Sized}
use Rattle.soundram.proofs.Addresses.{address_small, address_below, address_multiple}
use Rattle.registers.specs.Map.{register_at}
use Rattle.voice.specs.Voice.{fresh}
use Rattle.voice.proofs.Range.{fresh_in}
use Rattle.voices.specs.Voices.{past_end}
use Rattle.chip.specs.State.{State, with_transfer, fresh_of, size_ok}
use Rattle.chip.specs.Range.{TransferIn, InRange}
use Rattle.chip.proofs.Tests.{sized}

pub transfer_in_lem : {s : State} {a : ByteAddress} → InRange s → TransferIn s.choices.size a → InRange (with_transfer s a)
transfer_in_lem r t = record { shaped = record { regs = r.shaped.regs; voices = r.shaped.voices }; size = r.size; voices = r.voices; capture = r.capture; place = r.place; transfer = t; noise = r.noise }

-- an address that a register gives is even, and L-2 at most
pub placed_even : {size : ℕ} (u : UnitAddress) → Sized size → (address_of size u).0 % 2 ≡ 0
placed_even {size} u z = let m = address_multiple size u (omega arith) in omega arith

pub placed_most : {size : ℕ} (u : UnitAddress) → Sized size → (address_of size u).0 ≤ size - 2
placed_most {size} u z =
    let m = address_multiple size u (omega arith) in
    let b = address_below size u (omega arith) in
    omega arith

pub fresh_state_in : (size : ℕ) → size_ok size ≡ true → InRange (fresh_of size)
unfolding fresh_of register_at
fresh_state_in size e =
    let z = sized size e in
    record {
      shaped = record { regs = refl; voices = refl };
      size = e;
      voices = record { each = λ n h. rw (get_or-replicate 24 n fresh past_end h) (fresh_in z) };
      capture = record { even = refl; below = omega arith };
      place = record { even = refl; least = subst (λ (a : ByteAddress). a.0 ≤ 0) (address_small size (record { 0 = 0 }) (omega arith)) (omega arith); most = omega arith };
      transfer = record { even = refl; below = omega arith };
      noise = record { timer = omega arith };
    }
