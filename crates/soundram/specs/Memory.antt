-- Halfwords, marks, and what an access notices. Assumes nothing.
use Rattle.std.specs.Prelude.{Bool, cond, ◌||◌, ◌&&◌, not, List, ℕ, ◌+◌, ◌*◌, ◌/◌, ◌%◌, ◌^◌, eqb, get_or, set}
use Rattle.fixed.specs.Bits.{bit}
use Rattle.soundram.specs.declared.Watch.{Watch}

-- "A halfword lies at an even address, low byte first."
unfoldable pub half : List ℕ → ℕ → ℕ
half ram h = get_or ram (h * 2) 0 + get_or ram (h * 2 + 1) 0 * 256

unfoldable pub put_half : List ℕ → ℕ → ℕ → List ℕ
put_half ram h v = set (set ram (h * 2) (v % 256)) (h * 2 + 1) (v / 256)

-- A mark, in document 01's word: "bit h mod 8 of byte h div 8 says that halfword h (address 2h) is loaded". "A halfword is marked if the
-- lent marks hold its bit and it is set": past their end nothing is.
unfoldable pub marked : List ℕ → ℕ → Bool
marked marks h = bit (h % 8) (get_or marks (h / 8) 0)

-- "Every write marks its halfword."
unfoldable pub mark : List ℕ → ℕ → List ℕ
mark marks h = cond (marked marks h) marks (set marks (h / 8) (get_or marks (h / 8) 0 + 2 ^ (h % 8)))

-- "If SPUCNT bits 15 and 6 are set and the latch is clear, an access to the halfword exactly at the IRQ address sets the latch"
abbrev pub latched : Watch → ℕ → Bool
latched w h = w.latch || (w.armed && eqb w.halfword h)

-- A counted read, in document 01's word, is one whose value may reach what is heard. "A counted read of an unmarked halfword sets doubt,
-- which stays until a reset": doubt, the paper's word too, says that what is heard may rest on bytes that nobody loaded.
unfoldable pub reading : Bool → ℕ → List ℕ → Watch → Watch
reading counted h marks w =
    record { armed = w.armed; halfword = w.halfword; latch = latched w h; doubt = w.doubt || (counted && not (marked marks h)) }

unfoldable pub writing : ℕ → Watch → Watch
writing h w = record { armed = w.armed; halfword = w.halfword; latch = latched w h; doubt = w.doubt }
