-- The command that a line gives, in the order of the programs' descriptions. Assumes nothing.
use Rattle.std.specs.Prelude.{Bool, true, false, cond, ◌&&◌, ◌||◌, Option, Some, None, List, [], ◌∷◌, ℕ, zero, suc, ◌+◌, ◌-◌, ◌*◌, ◌%◌, eqb, leb, get_or, replicate, set, ℤ, pos}
use Rattle.fixed.specs.Signed.{signed}
use Rattle.lines.specs.Fields.{packed}
use Rattle.lines.specs.Line.{when, is_hex, is_count}
use Rattle.lines.specs.declared.Field.{Field}
use Rattle.lines.specs.declared.Line.{Line}
use Rattle.commands.specs.declared.Command.{Command}
use Rattle.commands.specs.declared.Command.TheVariants.{Quiet, Write, Read, Inward, Outward, Tick, View, Reset, Ram, Marks, Fill}

-- ---- a line's fields, the command first

abbrev pub field_in : List Field → ℕ → Field
field_in fs n = get_or fs n (record { length = 0; word = 0; hex = false; value = 0; decimal = false; count = 0 })

abbrev pub field_at : Line → ℕ → Field
field_at l n = field_in l.fields n

abbrev pub word_of : Line → ℕ
word_of l = (field_at l 0).word

-- so many fields after the command
abbrev pub given : ℕ → Line → Bool
given n l = eqb l.count (n + 1)

-- ---- numbers of fields; of one that was read and passed its test, the remainder is the number itself

abbrev pub halfword : Field → ℕ
halfword f = f.value % 0x10000

-- "CD samples four digits, two's complement"
abbrev pub sample_of : Field → ℤ
sample_of f = signed 16 (halfword f)

abbrev pub address_of : Field → ℕ
address_of f = f.value % 0x100000000

abbrev pub count_of : Field → ℕ
count_of f = f.count % 0x100000

-- ---- the commands

-- "w OFF VAL"
unfoldable pub write_of : Line → Option Command
write_of l =
    when (given 2 l && (is_hex 1 4 (field_at l 1) && is_hex 1 4 (field_at l 2)))
    (Write (halfword (field_at l 1)) (halfword (field_at l 2)))

-- "r OFF"
unfoldable pub read_of : Line → Option Command
read_of l = when (given 1 l && is_hex 1 4 (field_at l 1)) (Read (halfword (field_at l 1)))

-- "s V ..", "one V or more"; more than 33 count as 33: the call refuses either
unfoldable pub inward_of : Line → Option Command
inward_of l = when (leb 2 l.count && (leb l.count 34 && l.halfwords)) (Inward (l.count - 1))

-- the halfwords of an `s` line: the first n of 33
unfoldable pub values_of : List Field → ℕ → List ℕ
values_of fs zero = replicate 33 0
values_of fs (suc n) = set (values_of fs n) n (halfword (field_in fs (suc n)))

-- "o N", "N to 64"
unfoldable pub outward_of : Line → Option Command
outward_of l = when (given 1 l && is_count 0 64 (field_at l 1)) (Outward (count_of (field_at l 1)))

-- "t N" of bench, and "t N" and "f N" of replay with no samples; N "to 65535", CD zero
unfoldable pub plain_of : Bool → Line → Option Command
plain_of floats l = when (given 1 l && is_count 0 65535 (field_at l 1)) (Tick floats (count_of (field_at l 1)) (pos 0) (pos 0))

-- "t N [CDL CDR]", "f N [CDL CDR]"
unfoldable pub tick_of : Bool → Line → Option Command
tick_of floats l =
    cond (given 3 l && (is_count 0 65535 (field_at l 1) && (is_hex 4 4 (field_at l 2) && is_hex 4 4 (field_at l 3))))
    (Some (Tick floats (count_of (field_at l 1)) (sample_of (field_at l 2)) (sample_of (field_at l 3))))
    (plain_of floats l)

-- "v ADDR", "ADDR to 8 digits"
unfoldable pub view_of : Line → Option Command
view_of l = when (given 1 l && is_hex 1 8 (field_at l 1)) (View (address_of (field_at l 1)))

-- "reset"
unfoldable pub reset_of : Line → Option Command
reset_of l = when (given 0 l) Reset

-- "ADDR N", N from least to most: a range of N units of so many bytes within sound RAM
unfoldable pub ranged : ℕ → ℕ → ℕ → ℕ → Line → Bool
ranged size unit least most l =
    is_hex 1 8 (field_at l 1) && (is_count least most (field_at l 2) && leb (address_of (field_at l 1) + unit * (field_at l 2).count) size)

-- "ram ADDR N", "N 1 to 64"
unfoldable pub ram_of : ℕ → Line → Option Command
ram_of size l = when (given 2 l && ranged size 1 1 64 l) (Ram (address_of (field_at l 1)) (count_of (field_at l 2)))

-- "marks ADDR N", "of N halfwords from even ADDR on, N 1 to 64"
unfoldable pub marks_of : ℕ → Line → Option Command
marks_of size l =
    when (given 2 l && (ranged size 2 1 64 l && eqb (address_of (field_at l 1) % 2) 0))
    (Marks (address_of (field_at l 1)) (count_of (field_at l 2)))

-- "fill ADDR N BB"
unfoldable pub fill_of : ℕ → Line → Option Command
fill_of size l =
    when (given 3 l && (ranged size 1 0 0x80000 l && is_hex 1 2 (field_at l 3)))
    (Fill (address_of (field_at l 1)) (count_of (field_at l 2)) ((field_at l 3).value % 0x100))

-- ---- by its word

pub record Named : Type 0 where
  pub word : ℕ
  pub command : Option Command

-- the command with that word, or another; None is a line that is no command
unfoldable pub chosen : ℕ → Option Command → List Named → Option Command
chosen w other [] = other
chosen w other (n ∷ ns) = cond (eqb w n.word) n.command (chosen w other ns)

abbrev pub named : List ℕ → Option Command → Named
named text c = record { word = packed text; command = c }

-- the program bench: `w`, `s`, `t`. "Other lines print `bad line`."
unfoldable pub bench_of : Line → Option Command
bench_of l = chosen (word_of l) None (named (119 ∷ []) (write_of l) ∷ named (115 ∷ []) (inward_of l) ∷ named (116 ∷ []) (plain_of false l) ∷ [])

-- the program replay: `ram`, `marks`, `fill`. "Anything else .. prints `bad line`"
unfoldable pub raw_of : ℕ → Line → Option Command
raw_of size l =
    chosen (word_of l) None
    (named (114 ∷ 97 ∷ 109 ∷ []) (ram_of size l)
    ∷ named (109 ∷ 97 ∷ 114 ∷ 107 ∷ 115 ∷ []) (marks_of size l)
    ∷ named (102 ∷ 105 ∷ 108 ∷ 108 ∷ []) (fill_of size l)
    ∷ [])

-- `t`, `f`, `v`, `reset`
unfoldable pub run_of : ℕ → Line → Option Command
run_of size l =
    chosen (word_of l) (raw_of size l)
    (named (116 ∷ []) (tick_of false l)
    ∷ named (102 ∷ []) (tick_of true l)
    ∷ named (118 ∷ []) (view_of l)
    ∷ named (114 ∷ 101 ∷ 115 ∷ 101 ∷ 116 ∷ []) (reset_of l)
    ∷ [])

-- `w`, `r`, `s`, `o`
unfoldable pub data_of : ℕ → Line → Option Command
data_of size l =
    chosen (word_of l) (run_of size l)
    (named (119 ∷ []) (write_of l)
    ∷ named (114 ∷ []) (read_of l)
    ∷ named (115 ∷ []) (inward_of l)
    ∷ named (111 ∷ []) (outward_of l)
    ∷ [])

-- "Blank lines and lines that begin with # print nothing."
unfoldable pub replay_of : ℕ → Line → Option Command
replay_of size l = cond (eqb l.count 0 || l.comment) (Some Quiet) (data_of size l)
