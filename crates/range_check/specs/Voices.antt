-- The tests of a voice, as the code makes them: its wait, and its other fields. Assumes nothing.
use Rattle.std.specs.Prelude.{Bool, not, ◌&&◌, ◌||◌, List, ℕ, ◌+◌, leb, get_or}
use Rattle.envelope.specs.declared.Envelope.{Envelope}
use Rattle.envelope.specs.Adsr.{active}

-- "envelope wait 0..400000h, at least 1 in Attack, Decay, Sustain, Release"
unfoldable pub wait_ok : Envelope → Bool
wait_ok e = leb e.wait 0x400000 && (not (active e.phase) || leb 1 e.wait)

-- voice n's phase, level, counter, index and unit, whether it has a block, its flags, and whether it has ended; `last` is the last unit of sound RAM
abbrev pub fields_ok : List ℕ → ℕ → ℕ → Bool
fields_ok xs last n =
    leb (get_or xs (260 + n) 0) 5
    && (leb (get_or xs (284 + n) 0) 0x7FFF
    && (leb (get_or xs (356 + n) 0) 0xFFF
    && (leb (get_or xs (380 + n) 0) 27
    && (leb (get_or xs (404 + n) 0) last && (leb (get_or xs (452 + n) 0) 1 && (leb (get_or xs (476 + n) 0) 0xFF && leb (get_or xs (500 + n) 0) 1))))))
