-- The lines that the programs answer. Assumes nothing.
use Rattle.std.specs.Prelude.{Bool, cond, List, [], ◌∷◌, ◌++◌, ℕ, zero, suc, ◌+◌, eqb, length, get_or, ℤ, Float}
use Rattle.std.specs.Float.{binary32}
use Rattle.std.specs.Float.Ieee.{eq, to_bits}
use Rattle.soundram.specs.Memory.{marked}
use Rattle.text.specs.Text.{hex_text, decimal_text, signed_text, flag_text}

-- ---- parts of a line, each after a blank

unfoldable pub decimal_part : ℕ → List ℕ
decimal_part n = 32 ∷ decimal_text n

unfoldable pub signed_part : ℤ → List ℕ
signed_part z = 32 ∷ signed_text z

-- "LEFT RIGHT"
unfoldable pub pair_part : ℤ → ℤ → List ℕ
pair_part left right = signed_part left ++ signed_part right

unfoldable pub flag_part : Bool → List ℕ
flag_part b = 32 ∷ flag_text b

unfoldable pub hex_part : ℕ → ℕ → List ℕ
hex_part n k = 32 ∷ hex_text n k

-- "IRQ DOUBT"
unfoldable pub reports_part : Bool → Bool → List ℕ
reports_part irq doubt = flag_part irq ++ flag_part doubt

-- the state's doubt after the call, and the line's end
unfoldable pub doubt_end : Bool → List ℕ
doubt_end after = flag_part after ++ 10 ∷ []

-- "IRQ DOUBT SD", and the line's end
unfoldable pub end_part : Bool → Bool → Bool → List ℕ
end_part irq doubt after = reports_part irq doubt ++ doubt_end after

-- a command's letter and its number
unfoldable pub start_of : ℕ → ℕ → List ℕ
start_of letter number = letter ∷ decimal_part number

-- ---- replay

-- "w NUM"
unfoldable pub write_text : ℕ → List ℕ
write_text number = start_of 119 number ++ 10 ∷ []

-- "r NUM VVVV"
unfoldable pub read_text : ℕ → ℕ → List ℕ
read_text number value = start_of 114 number ++ hex_part value 4 ++ 10 ∷ []

-- "NUM MOVED IRQ DOUBT" of a transfer, after its letter
unfoldable pub moved_of : ℕ → ℕ → ℕ → Bool → Bool → List ℕ
moved_of letter number moved irq doubt = start_of letter number ++ decimal_part moved ++ reports_part irq doubt

-- "s NUM MOVED IRQ DOUBT"
unfoldable pub inward_text : ℕ → ℕ → Bool → Bool → List ℕ
inward_text number moved irq doubt = moved_of 115 number moved irq doubt ++ 10 ∷ []

-- the halfwords of a buffer, "H .."
unfoldable pub halfwords_from : List ℕ → ℕ → ℕ → List ℕ
halfwords_from hs i zero = []
halfwords_from hs i (suc n) = hex_part (get_or hs i 0) 4 ++ halfwords_from hs (i + 1) n

unfoldable pub halfwords_end : List ℕ → List ℕ
halfwords_end hs = (32 ∷ 58 ∷ []) ++ halfwords_from hs 0 (length hs) ++ 10 ∷ []

-- "o NUM MOVED IRQ DOUBT : H .."
unfoldable pub outward_text : ℕ → ℕ → Bool → Bool → List ℕ → List ℕ
outward_text number moved irq doubt hs = moved_of 111 number moved irq doubt ++ halfwords_end hs

-- a letter, "NUM TICK"
unfoldable pub tick_start : ℕ → ℕ → ℕ → List ℕ
tick_start letter number tick = start_of letter number ++ decimal_part tick

-- "t NUM TICK LEFT RIGHT IRQ DOUBT SD"
unfoldable pub tick_text : ℕ → ℕ → ℤ → ℤ → Bool → Bool → Bool → List ℕ
tick_text number tick left right irq doubt after =
    tick_start 116 number tick ++ pair_part left right ++ end_part irq doubt after

-- "the floats' bits": those of a float that equals itself, as every number does
unfoldable pub bits_of : Float → ℕ
bits_of x = cond (eq x x) (to_bits binary32 x) 0

-- "LLLLLLLL RRRRRRRR"
unfoldable pub floats_part : Float → Float → List ℕ
floats_part left right = hex_part (bits_of left) 8 ++ hex_part (bits_of right) 8

-- "f NUM TICK LLLLLLLL RRRRRRRR IRQ DOUBT SD"
unfoldable pub floats_text : ℕ → ℕ → Float → Float → Bool → Bool → Bool → List ℕ
floats_text number tick left right irq doubt after =
    tick_start 102 number tick ++ floats_part left right ++ end_part irq doubt after

-- "BYTES two digits a byte run together"
unfoldable pub bytes_from : List ℕ → ℕ → ℕ → List ℕ
bytes_from bs i zero = []
bytes_from bs i (suc n) = hex_text (get_or bs i 0) 2 ++ bytes_from bs (i + 1) n

unfoldable pub bytes_end : List ℕ → ℕ → ℕ → List ℕ
bytes_end bs i n = 32 ∷ bytes_from bs i n ++ 10 ∷ []

-- "v NUM LEN BYTES"; "of a refused view nothing follows the blank"
unfoldable pub view_text : ℕ → List ℕ → List ℕ
view_text number view = start_of 118 number ++ decimal_part (length view) ++ bytes_end view 0 (length view)

-- "reset NUM"
unfoldable pub reset_text : ℕ → List ℕ
reset_text number = (114 ∷ 101 ∷ 115 ∷ 101 ∷ 116 ∷ []) ++ decimal_part number ++ 10 ∷ []

-- "ram AAAAA BYTES"
unfoldable pub ram_text : ℕ → ℕ → List ℕ → List ℕ
ram_text address n ram = (114 ∷ 97 ∷ 109 ∷ []) ++ hex_part address 5 ++ bytes_end ram address n

-- the marks of n halfwords from the h-th on
unfoldable pub marks_from : List ℕ → ℕ → ℕ → List ℕ
marks_from ms h zero = []
marks_from ms h (suc n) = flag_text (marked ms h) ++ marks_from ms (h + 1) n

unfoldable pub marks_end : List ℕ → ℕ → ℕ → List ℕ
marks_end ms h n = 32 ∷ marks_from ms h n ++ 10 ∷ []

-- "marks AAAAA 0110.."; h is the halfword at the address
unfoldable pub marks_text : ℕ → ℕ → ℕ → List ℕ → List ℕ
marks_text address h n ms = (109 ∷ 97 ∷ 114 ∷ 107 ∷ 115 ∷ []) ++ hex_part address 5 ++ marks_end ms h n

-- ---- bench

-- "tick number before the tick, left, right, the state's doubt (0 or 1)"
unfoldable pub bench_text : ℕ → ℤ → ℤ → Bool → List ℕ
bench_text tick left right doubt = decimal_text tick ++ pair_part left right ++ doubt_end doubt

-- "refused 5"
unfoldable pub refused_text : ℕ → List ℕ
refused_text number = (114 ∷ 101 ∷ 102 ∷ 117 ∷ 115 ∷ 101 ∷ 100 ∷ []) ++ decimal_part number ++ 10 ∷ []

-- "Accepted `w` and `s` print nothing"
unfoldable pub bench_number : ℕ → List ℕ
bench_number number = cond (eqb number 0) [] (refused_text number)

-- ---- of both

-- the answers that bench and replay give in different words
unfoldable pub write_answer : Bool → ℕ → List ℕ
write_answer bench number = cond bench (bench_number number) (write_text number)

unfoldable pub inward_answer : Bool → ℕ → ℕ → Bool → Bool → List ℕ
inward_answer bench number moved irq doubt = cond bench (bench_number number) (inward_text number moved irq doubt)

unfoldable pub tick_answer : Bool → ℕ → ℕ → ℤ → ℤ → Bool → Bool → Bool → List ℕ
tick_answer bench number tick left right irq doubt after =
    cond bench (bench_text tick left right after) (tick_text number tick left right irq doubt after)

-- a program's name and L
unfoldable pub title_text : List ℕ → ℕ → List ℕ
title_text name size = name ++ decimal_part size ++ 10 ∷ []

-- "the last line is `end clear` or `end doubt`"
unfoldable pub end_text : Bool → List ℕ
end_text doubt = cond doubt (101 ∷ 110 ∷ 100 ∷ 32 ∷ 100 ∷ 111 ∷ 117 ∷ 98 ∷ 116 ∷ 10 ∷ []) (101 ∷ 110 ∷ 100 ∷ 32 ∷ 99 ∷ 108 ∷ 101 ∷ 97 ∷ 114 ∷ 10 ∷ [])
