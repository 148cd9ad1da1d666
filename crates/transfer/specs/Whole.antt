-- A transfer that does not wrap, halfword by halfword: n halfwords from halfword h on. The laws of proofs/Whole say that it is the transfer of specs/Transfer.
-- Assumes nothing.
use Rattle.std.specs.Prelude.{Bool, ◌||◌, ◌&&◌, not, List, ℕ, zero, suc, ◌+◌, leb, ltb, get_or, set}
use Rattle.fixed.specs.Tests.{all_below}
use Rattle.soundram.specs.Memory.{half, put_half, marked, mark}
use Rattle.soundram.specs.declared.Watch.{Watch}

-- sound RAM after the first n values are stored
unfoldable pub stored_of : List ℕ → ℕ → List ℕ → ℕ → List ℕ
stored_of ram h vs zero = ram
stored_of ram h vs (suc n) = put_half (stored_of ram h vs n) (h + n) (get_or vs n 0)

unfoldable pub marked_from : List ℕ → ℕ → ℕ → List ℕ
marked_from marks h zero = marks
marked_from marks h (suc n) = mark (marked_from marks h n) (h + n)

-- the outgoing buffer after its first n places are filled
unfoldable pub copied_of : List ℕ → ℕ → List ℕ → ℕ → List ℕ
copied_of ram h out zero = out
copied_of ram h out (suc n) = set (copied_of ram h out n) n (half ram (h + n))

-- each halfword is marked
abbrev pub all_marked : List ℕ → ℕ → ℕ → Bool
all_marked marks h n = all_below n (λ i. marked marks (h + i))

-- The watch after an access to each halfword. sure: none was a counted read of an unmarked halfword.
unfoldable pub passed_of : Watch → ℕ → ℕ → Bool → Watch
passed_of w h n sure =
    record {
      armed = w.armed;
      halfword = w.halfword;
      latch = w.latch || (w.armed && (leb h w.halfword && ltb w.halfword (h + n)));
      doubt = w.doubt || not sure;
    }
