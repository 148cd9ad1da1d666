-- What is kept of a field and of a line, and how a byte more changes it. Assumes nothing.
use Rattle.std.specs.Prelude.{Bool, true, false, cond, not, ◌&&◌, ◌||◌, Option, Some, None, List, [], ◌∷◌, map, ℕ, zero, suc, ◌+◌, ◌*◌, min, eqb, leb, ltb, length, get_or, drop, replicate, set}
use Rattle.lines.specs.Fields.{blank, digit_of, digits_only, number_from, packed, fields_of}
use Rattle.lines.specs.declared.Field.{Field}
use Rattle.lines.specs.declared.Line.{Line}
use Rattle.lines.specs.declared.Scanned.{Scanned}
use Rattle.lines.specs.declared.Scanned.TheVariants.{Ended, Open}

-- ---- of a field, whatever its length: each number up to a limit beyond which no field of a command goes

abbrev pub length_limit : ℕ
length_limit = 9

abbrev pub word_limit : ℕ
word_limit = 0x1000000000000

abbrev pub value_limit : ℕ
value_limit = 0xFFFFFFFF

abbrev pub count_limit : ℕ
count_limit = 1000000

-- a value, where a test holds
abbrev pub when : {A : Type 0} → Bool → A → Option A
when p x = cond p (Some x) None

unfoldable pub field_of : List ℕ → Field
field_of bs =
    record {
      length = min (length bs) length_limit;
      word = min (packed bs) word_limit;
      hex = digits_only 16 bs;
      value = min (number_from 16 0 bs) value_limit;
      decimal = digits_only 10 bs;
      count = min (number_from 10 0 bs) count_limit;
    }

-- no byte yet
unfoldable pub none_of : Field
none_of = record { length = 0; word = 1; hex = true; value = 0; decimal = true; count = 0 }

-- one byte more
unfoldable pub more_of : Field → ℕ → Field
more_of f b =
    record {
      length = min (f.length + 1) length_limit;
      word = min (f.word * 256 + b) word_limit;
      hex = f.hex && ltb (digit_of b) 16;
      value = min (f.value * 16 + digit_of b) value_limit;
      decimal = f.decimal && ltb (digit_of b) 10;
      count = min (f.count * 10 + digit_of b) count_limit;
    }

-- "hex, 1-4 digits": digits of either case, from least to most of them
unfoldable pub is_hex : ℕ → ℕ → Field → Bool
is_hex least most f = f.hex && (leb least f.length && leb f.length most)

-- decimal digits, leading zeros let go, for a number from least to most
unfoldable pub is_count : ℕ → ℕ → Field → Bool
is_count least most f = f.decimal && (not (eqb f.length 0) && (leb least f.count && leb f.count most))

-- ---- of a line: the command and its first 33 fields; of those after them, that they are halfwords

abbrev pub kept : ℕ
kept = 34

-- the first n of a list, with none where it is shorter
abbrev pub first_fields : ℕ → List Field → List Field
first_fields zero fs = []
first_fields (suc n) [] = none_of ∷ first_fields n []
first_fields (suc n) (f ∷ fs) = f ∷ first_fields n fs

abbrev pub every : (Field → Bool) → List Field → Bool
every p [] = true
every p (f ∷ fs) = p f && every p fs

-- a line in which the fields fs have ended and one runs
abbrev pub line_with : Bool → Bool → List Field → Field → Line
line_with begun comment fs running =
    record {
      begun = begun;
      comment = comment;
      running = running;
      fields = first_fields kept fs;
      count = min (length fs) kept;
      halfwords = every (is_hex 1 4) (drop 1 fs);
    }

-- what is kept of the line of these bytes
unfoldable pub summary_of : List ℕ → Line
summary_of bs = line_with (not (eqb (length bs) 0)) (eqb (get_or bs 0 0) 35) (map field_of (fields_of bs)) none_of

-- ---- a line byte by byte

unfoldable pub fresh_of : Line
fresh_of = record { begun = false; comment = false; running = none_of; fields = replicate kept none_of; count = 0; halfwords = true }

-- the running field joins the others
unfoldable pub joined_of : Line → Line
joined_of l =
    record {
      begun = l.begun;
      comment = l.comment;
      running = none_of;
      fields = set l.fields l.count l.running;
      count = min (l.count + 1) kept;
      halfwords = l.halfwords && (eqb l.count 0 || is_hex 1 4 l.running);
    }

-- a blank, or the line's end
unfoldable pub ended_of : Line → Line
ended_of l = cond (eqb l.running.length 0) l (joined_of l)

-- "lines that begin with #"
unfoldable pub begun_of : Line → ℕ → Line
begun_of l b =
    record {
      begun = true;
      comment = l.comment || (not l.begun && eqb b 35);
      running = l.running;
      fields = l.fields;
      count = l.count;
      halfwords = l.halfwords;
    }

unfoldable pub grown_of : Line → ℕ → Line
grown_of l b =
    record { begun = l.begun; comment = l.comment; running = more_of l.running b; fields = l.fields; count = l.count; halfwords = l.halfwords }

unfoldable pub feed_of : Line → ℕ → Line
feed_of l b = cond (blank b) (ended_of (begun_of l b)) (grown_of (begun_of l b) b)

abbrev pub fed_of : Line → List ℕ → Line
fed_of l [] = l
fed_of l (b ∷ bs) = fed_of (feed_of l b) bs

-- "A line is what stands before LF": the bytes up to it are fed, from index i on
unfoldable pub scan_of : Line → ℕ → List ℕ → Scanned
scan_of l i [] = Open l i
scan_of l i (b ∷ bs) = cond (eqb b 10) (Ended l (i + 1)) (scan_of (feed_of l b) (i + 1) bs)
