-- No answer is longer than 512 bytes, so none is cut where that much room is left. Assumes nothing.
use mathlib.Core.Bool.{Bool, true, false}
use mathlib.Core.List.{List, [], ◌∷◌, ◌++◌}
use Prim.Native.Nat.{ℕ, zero, suc, ◌+◌, ◌*◌, ◌≤◌}
use native.Mathlib.Omega.{arith}
use lib.ListN.{length, get_or, length-append}
use lib.IntN.{ℤ}
use lib.Ieee.{Float}
use Rattle.soundram.specs.Memory.{marked}
use Rattle.text.specs.Text.{hex_text, decimal_text, flag_text}
use Rattle.text.proofs.Lengths.{digits_length, decimal_length, signed_length, flag_length}
use Rattle.answers.specs.Answer.{decimal_part, signed_part, pair_part, flag_part, hex_part, reports_part, doubt_end, end_part, start_of, write_text, read_text, moved_of, inward_text, halfwords_from, halfwords_end, outward_text, tick_start, tick_text, bits_of, floats_part, floats_text, bytes_from, bytes_end, view_text, reset_text, ram_text, marks_from, marks_end, marks_text, bench_text, refused_text, end_text}

-- a text of at most n bytes
pub record Short (n : ℕ) (t : List ℕ) : Type 0 where
  pub most : length t ≤ n

both : {m n : ℕ} {s t : List ℕ} → Short m s → Short n t → Short (m + n) (s ++ t)
both {s = s} {t = t} p q = record { most = let e = length-append s t in omega (arith, p.most, q.most) }

after : {n b : ℕ} {t : List ℕ} → Short n t → Short (n + 1) (b ∷ t)
after p = record { most = omega (arith, p.most) }

wider : {m n : ℕ} {t : List ℕ} → Short m t → m ≤ n → Short n t
wider p h = record { most = omega (arith, p.most) }

whole : (t : List ℕ) → Short (length t) t
whole t = record { most = omega arith }

-- ---- parts

decimals : (n : ℕ) → Short 20 (decimal_text n)
decimals n = record { most = decimal_length n }

flag : (b : Bool) → Short 1 (flag_text b)
flag b = record { most = let e = flag_length b in omega arith }

hex_digits : (n k : ℕ) → Short k (hex_text n k)
hex_digits n k = record { most = let e = digits_length 16 n k in omega arith }

decimal_part_lem : (n : ℕ) → Short 21 (decimal_part n)
unfolding decimal_part
decimal_part_lem n = after (decimals n)

signed_part_lem : (z : ℤ) → Short 22 (signed_part z)
unfolding signed_part
signed_part_lem z = after {n = 21} (record { most = signed_length z })

flag_part_lem : (b : Bool) → Short 2 (flag_part b)
unfolding flag_part
flag_part_lem b = after (flag b)

hex_part_lem : (n k : ℕ) → Short (k + 1) (hex_part n k)
unfolding hex_part
hex_part_lem n k = after (hex_digits n k)

pair_part_lem : (l r : ℤ) → Short 44 (pair_part l r)
unfolding pair_part
pair_part_lem l r = both (signed_part_lem l) (signed_part_lem r)

reports_part_lem : (i d : Bool) → Short 4 (reports_part i d)
unfolding reports_part
reports_part_lem i d = both (flag_part_lem i) (flag_part_lem d)

doubt_end_lem : (b : Bool) → Short 3 (doubt_end b)
unfolding doubt_end
doubt_end_lem b = both (flag_part_lem b) (whole (10 ∷ []))

end_part_lem : (i d a : Bool) → Short 7 (end_part i d a)
unfolding end_part
end_part_lem i d a = both (reports_part_lem i d) (doubt_end_lem a)

start : (letter n : ℕ) → Short 22 (start_of letter n)
unfolding start_of
start letter n = after (decimal_part_lem n)

moved : (letter number count : ℕ) (i d : Bool) → Short 47 (moved_of letter number count i d)
unfolding moved_of
moved letter number count i d = both (both (start letter number) (decimal_part_lem count)) (reports_part_lem i d)

tick_start_lem : (letter number tick : ℕ) → Short 43 (tick_start letter number tick)
unfolding tick_start
tick_start_lem letter number tick = both (start letter number) (decimal_part_lem tick)

floats_part_lem : (l r : Float) → Short 18 (floats_part l r)
unfolding floats_part
floats_part_lem l r = both (hex_part_lem (bits_of l) 8) (hex_part_lem (bits_of r) 8)

halfwords : (hs : List ℕ) (i n : ℕ) → Short (5 * n) (halfwords_from hs i n)
unfolding halfwords_from
halfwords hs i zero = whole []
halfwords hs i (suc n) = wider (both (hex_part_lem (get_or hs i 0) 4) (halfwords hs (i + 1) n)) (omega arith)

bytes : (bs : List ℕ) (i n : ℕ) → Short (2 * n) (bytes_from bs i n)
unfolding bytes_from
bytes bs i zero = whole []
bytes bs i (suc n) = wider (both (hex_digits (get_or bs i 0) 2) (bytes bs (i + 1) n)) (omega arith)

marks : (ms : List ℕ) (h n : ℕ) → Short n (marks_from ms h n)
unfolding marks_from
marks ms h zero = whole []
marks ms h (suc n) = wider (both (flag (marked ms h)) (marks ms (h + 1) n)) (omega arith)

bytes_end_lem : (bs : List ℕ) (i n : ℕ) → Short (2 * n + 2) (bytes_end bs i n)
unfolding bytes_end
bytes_end_lem bs i n = wider (both (after (bytes bs i n)) (whole (10 ∷ []))) (omega arith)

-- ---- lines

pub write_short : (n : ℕ) → Short 512 (write_text n)
unfolding write_text
write_short n = wider (both (start 119 n) (whole (10 ∷ []))) (omega arith)

pub read_short : (n v : ℕ) → Short 512 (read_text n v)
unfolding read_text
read_short n v = wider (both (both (start 114 n) (hex_part_lem v 4)) (whole (10 ∷ []))) (omega arith)

pub inward_short : (n c : ℕ) (i d : Bool) → Short 512 (inward_text n c i d)
unfolding inward_text
inward_short n c i d = wider (both (moved 115 n c i d) (whole (10 ∷ []))) (omega arith)

pub outward_short : (n c : ℕ) (i d : Bool) (hs : List ℕ) → length hs ≤ 64 → Short 512 (outward_text n c i d hs)
unfolding outward_text halfwords_end
outward_short n c i d hs h = wider (both (moved 111 n c i d) (both (both (whole (32 ∷ 58 ∷ [])) (halfwords hs 0 (length hs))) (whole (10 ∷ [])))) (omega arith)

pub tick_short : (n t : ℕ) (l r : ℤ) (i d a : Bool) → Short 512 (tick_text n t l r i d a)
unfolding tick_text
tick_short n t l r i d a = wider (both (both (tick_start_lem 116 n t) (pair_part_lem l r)) (end_part_lem i d a)) (omega arith)

pub floats_short : (n t : ℕ) (l r : Float) (i d a : Bool) → Short 512 (floats_text n t l r i d a)
unfolding floats_text
floats_short n t l r i d a = wider (both (both (tick_start_lem 102 n t) (floats_part_lem l r)) (end_part_lem i d a)) (omega arith)

pub view_short : (n : ℕ) (v : List ℕ) → length v ≤ 16 → Short 512 (view_text n v)
unfolding view_text
view_short n v h = wider (both (both (start 118 n) (decimal_part_lem (length v))) (bytes_end_lem v 0 (length v))) (omega arith)

pub reset_short : (n : ℕ) → Short 512 (reset_text n)
unfolding reset_text
reset_short n = wider (both (both (whole (114 ∷ 101 ∷ 115 ∷ 101 ∷ 116 ∷ [])) (decimal_part_lem n)) (whole (10 ∷ []))) (omega arith)

pub ram_short : (a n : ℕ) (bs : List ℕ) → n ≤ 64 → Short 512 (ram_text a n bs)
unfolding ram_text
ram_short a n bs h = wider (both (both (whole (114 ∷ 97 ∷ 109 ∷ [])) (hex_part_lem a 5)) (bytes_end_lem bs a n)) (omega arith)

pub marks_short : (a h n : ℕ) (ms : List ℕ) → n ≤ 64 → Short 512 (marks_text a h n ms)
unfolding marks_text marks_end
marks_short a h n ms m =
    wider (both (both (whole (109 ∷ 97 ∷ 114 ∷ 107 ∷ 115 ∷ [])) (hex_part_lem a 5)) (both (after (marks ms h n)) (whole (10 ∷ [])))) (omega arith)

pub bench_short : (t : ℕ) (l r : ℤ) (d : Bool) → Short 512 (bench_text t l r d)
unfolding bench_text
bench_short t l r d = wider (both (both (decimals t) (pair_part_lem l r)) (doubt_end_lem d)) (omega arith)

pub refused_short : (n : ℕ) → Short 512 (refused_text n)
unfolding refused_text
refused_short n = wider (both (both (whole (114 ∷ 101 ∷ 102 ∷ 117 ∷ 115 ∷ 101 ∷ 100 ∷ [])) (decimal_part_lem n)) (whole (10 ∷ []))) (omega arith)

pub end_short : (d : Bool) → Short 512 (end_text d)
unfolding end_text
end_short true = record { most = omega arith }
end_short false = record { most = omega arith }
