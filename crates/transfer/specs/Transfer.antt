-- Transfers: "Transfers move halfwords at the transfer address, 2 a halfword, wrapping". Assumes nothing.
use Rattle.std.specs.Prelude.{true, List, ℕ, length, get_or, set}
use Rattle.soundram.specs.declared.ByteAddress.{ByteAddress}
use Rattle.soundram.specs.declared.Reader.{Reader}
use Rattle.soundram.specs.Address.{forward_of, halfword_of}
use Rattle.soundram.specs.Program.{Prog, done, bind, get, put, repeat}

-- inward: one halfword to the address, and the address after it
unfoldable pub put_one : ℕ → ℕ → ByteAddress → Prog ByteAddress
put_one size v a = bind (put (halfword_of a) v) (λ _. done (forward_of size a 2))

abbrev pub put_at : ℕ → List ℕ → ℕ → ByteAddress → Prog ByteAddress
put_at size vs i a = put_one size (get_or vs i 0) a

unfoldable pub inward_of : ℕ → ByteAddress → List ℕ → Prog ByteAddress
inward_of size a vs = repeat (put_at size vs) (length vs) a

-- outward: the address, and the outgoing buffer so far
pub record Outward : Type 0 where
  pub address : ByteAddress
  pub buffer : List ℕ

-- "Counted: .. every outward transfer"
unfoldable pub get_at : ℕ → ℕ → Outward → Prog Outward
get_at size i o =
    bind (get Reader.Transfer true (halfword_of o.address)) (λ v. done (record { address = forward_of size o.address 2; buffer = set o.buffer i v }))

unfoldable pub outward_of : ℕ → ByteAddress → List ℕ → Prog Outward
outward_of size a buffer = repeat (get_at size) (length buffer) (record { address = a; buffer = buffer })
