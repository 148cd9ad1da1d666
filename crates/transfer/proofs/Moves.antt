-- Transfers, from what the code's parts do; they are safe, and keep the address within sound RAM and even. Assumes nothing.
use mathlib.Core.Path.{◌≡◌}
use mathlib.Core.Bool.{true}
use mathlib.Core.List.{List}
use Prim.Native.Nat.{ℕ}
use lib.ListN.{length, set}
use Rattle.soundram.specs.declared.ByteAddress.{ByteAddress}
use Rattle.soundram.specs.declared.Reader.{Reader}
use Rattle.soundram.specs.Address.{forward_of, halfword_of}
use Rattle.soundram.specs.Program.{Mem, Does, get, put}
use Rattle.soundram.specs.TwoRuns.{Safe}
use Rattle.soundram.proofs.Programs.{Always, ends, always_any, always_bind, always_repeat, does_give, does_bind}
use Rattle.soundram.proofs.TwoRuns.{safe_done, safe_bind, safe_get, safe_put, safe_repeat}
use Rattle.transfer.specs.Transfer.{put_one, put_at, inward_of, Outward, get_at, outward_of}

pub put_does : (size v : ℕ) (a : ByteAddress) {b : ByteAddress} {m n : Mem} → Does (put (halfword_of a) v) m tt n → b ≡ forward_of size a 2 → Does (put_one size v a) m b n
unfolding put_one
put_does size v a {n} d e = does_bind _ d (does_give n e)

pub get_does : (size i : ℕ) (a : ByteAddress) (buffer : List ℕ) {b : ByteAddress} {v : ℕ} {m n : Mem} → Does (get Reader.Transfer true (halfword_of a)) m v n → b ≡ forward_of size a 2
    → Does (get_at size i (record { address = a; buffer = buffer })) m (record { address = b; buffer = set buffer i v }) n
unfolding get_at
get_does size i a buffer {n} d e = does_bind _ d (does_give n (rw e))

-- ---- they are safe

pub safe_inward : (size : ℕ) (a : ByteAddress) (vs : List ℕ) → Safe (inward_of size a vs)
unfolding inward_of put_one
safe_inward size a vs = safe_repeat (put_at size vs) (λ i b. safe_bind (safe_put _ _) (λ _. safe_done _)) (length vs) a

pub safe_outward : (size : ℕ) (a : ByteAddress) (buffer : List ℕ) → Safe (outward_of size a buffer)
unfolding outward_of get_at
safe_outward size a buffer = safe_repeat (get_at size) (λ i o. safe_bind (safe_get _ _) (λ v. safe_done _)) (length buffer) _

-- ---- what holds of an address and of the next holds after any number of moves

module _ (P : ByteAddress → Type 0) (size : ℕ) (next : (a : ByteAddress) → P a → P (forward_of size a 2)) where
  pub inward_keeps : (a : ByteAddress) (vs : List ℕ) → P a → Always P (inward_of size a vs)
  unfolding inward_of put_one
  inward_keeps a vs p = always_repeat (put_at size vs) (λ i b q. always_bind (always_any _) (λ _ _. ends (next b q))) (length vs) a p

  pub outward_keeps : (a : ByteAddress) (buffer : List ℕ) → P a → Always (λ (o : Outward). P o.address) (outward_of size a buffer)
  unfolding outward_of get_at
  outward_keeps a buffer p = always_repeat (get_at size) (λ i o q. always_bind (always_any _) (λ _ _. ends (next o.address q))) (length buffer) _ p
