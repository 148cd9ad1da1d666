-- A state as halfwords, in the buffer that a caller lends: what stands where, and what it means. Assumes nothing.
use Rattle.std.specs.Prelude.{◌≡◌, Bool, true, cond, ◌&&◌, List, [], ◌∷◌, ◌++◌, map, ℕ, zero, suc, ◌+◌, ◌-◌, ◌*◌, ◌/◌, ◌%◌, ◌<◌, eqb, leb, ltb, length, get_or, pos}
use Rattle.fixed.specs.Signed.{signed, bits_of}
use Rattle.envelope.specs.declared.Phase.{Phase}
use Rattle.envelope.specs.declared.Phase.TheVariants.{Idle, Attack, Decay, Sustain, Release, Off}
use Rattle.voice.specs.declared.Voice.{Voice}
use Rattle.voices.specs.Voices.{past_end}
use Rattle.chip.specs.State.{State, all_of, state_ok}

-- ---- lists by counting

-- f 0, f 1, .., f (n - 1)
unfoldable pub list_of : {A : Type 0} → (ℕ → A) → ℕ → List A
list_of f zero = []
list_of f (suc n) = list_of f n ++ f n ∷ []

-- a test passes at each element
unfoldable pub every : {A : Type 0} → (A → Bool) → List A → Bool
every t [] = true
every t (x ∷ xs) = t x && every t xs

-- ---- what stands where. docs/STATE.md has the same as a table

abbrev pub state_length : ℕ
state_length = 1284

-- halfwords 0 and 1: "TW2" and a zero, where low bytes come first. They change whenever the format does
abbrev pub tag : ℕ
tag = 0x5754

abbrev pub version : ℕ
version = 0x32

-- where the registers begin, the arrays over the voices, the waits among them, the samples, and what follows the voices
abbrev pub registers_at : ℕ
registers_at = 4

abbrev pub arrays_at : ℕ
arrays_at = 260

abbrev pub waits_at : ℕ
waits_at = 308

abbrev pub samples_at : ℕ
samples_at = 524

abbrev pub tail_at : ℕ
tail_at = 1268

abbrev pub tail_length : ℕ
tail_length = 16

-- count halfwords from a base on
unfoldable pub region : ℕ → ℕ → List ℕ → List ℕ
region base count xs = list_of (λ k. get_or xs (base + k) 0) count

-- word w of voice n. Words 0 to 10 are arrays over the 24 voices, in which the two halves of a wait, words 2 and 3, stand side by side; words 11 to 41 are the voice's
-- samples, side by side
unfoldable pub place : ℕ → ℕ → ℕ
place n w =
    cond (ltb w 2) (arrays_at + w * 24 + n)
    (cond (ltb w 4) (waits_at + n * 2 + (w - 2)) (cond (ltb w 11) (arrays_at + w * 24 + n) (samples_at + n * 31 + (w - 11))))

-- the 42 words of voice n
unfoldable pub row_of : List ℕ → ℕ → List ℕ
row_of xs n = list_of (λ w. get_or xs (place n w) 0) 42

-- the buffer in four parts, in which no place of it is left
pub record Parts : Type 0 where
  pub head : List ℕ
  pub regs : List ℕ
  pub rows : List (List ℕ)
  pub tail : List ℕ

unfoldable pub parts_of : List ℕ → Parts
parts_of xs = record { head = region 0 4 xs; regs = region registers_at 256 xs; rows = list_of (row_of xs) 24; tail = region tail_at tail_length xs }

-- ---- what it means

-- the 32-bit number that two halves make
abbrev pub wide : ℕ → ℕ → ℕ
wide low high = low + high * 0x10000

-- a bool, 0 or 1
abbrev pub flag : ℕ → Bool
flag x = eqb x 1

-- the phase that a number up to 5 stands for
unfoldable pub phase_of : ℕ → Phase
phase_of n = cond (eqb n 0) Idle (cond (eqb n 1) Attack (cond (eqb n 2) Decay (cond (eqb n 3) Sustain (cond (eqb n 4) Release Off))))

-- the voice that these words make. An address stands as a unit of 8 bytes
unfoldable pub voice_from : List ℕ → Voice
voice_from ws =
    record {
      envelope = record { phase = phase_of (get_or ws 0 0); level = get_or ws 1 0; wait = wide (get_or ws 2 0) (get_or ws 3 0) };
      source = record { address = record { 0 = get_or ws 6 0 * 8 }; repeat = record { 0 = get_or ws 7 0 } };
      position = record { counter = get_or ws 4 0; index = get_or ws 5 0 };
      playing = record { loaded = flag (get_or ws 8 0); flags = get_or ws 9 0; samples = list_of (λ k. signed 16 (get_or ws (11 + k) 0)) 31 };
      ended = flag (get_or ws 10 0);
    }

-- the state that the four parts make. The places of the capture, the reverb and transfers stand as numbers of halfwords
unfoldable pub state_from : Parts → State
state_from p =
    record {
      choices = record { size = wide (get_or p.head 2 0) (get_or p.head 3 0) };
      regs = p.regs;
      voices = map voice_from p.rows;
      noise = record { level = get_or p.tail 0 0; timer = wide (get_or p.tail 1 0) (get_or p.tail 2 0) };
      control = record { applied = get_or p.tail 3 0; latch = flag (get_or p.tail 4 0); doubt = flag (get_or p.tail 5 0) };
      capture = get_or p.tail 6 0 * 2;
      reverb =
          record {
            place = record { 0 = wide (get_or p.tail 7 0) (get_or p.tail 8 0) * 2 };
            right = flag (get_or p.tail 9 0);
            held = record { left = signed 16 (get_or p.tail 10 0); right = signed 16 (get_or p.tail 11 0) };
          };
      transfer = record { 0 = wide (get_or p.tail 14 0) (get_or p.tail 15 0) * 2 };
      tick = wide (get_or p.tail 12 0) (get_or p.tail 13 0);
    }

-- the state that stands in a buffer
unfoldable pub state_of : List ℕ → State
state_of xs = state_from (parts_of xs)

-- its voice n
abbrev pub voice_in : List ℕ → ℕ → Voice
voice_in xs n = get_or (state_of xs).voices n past_end

-- ---- which buffers are states

-- it has a state's length and tag
unfoldable pub is_tagged : List ℕ → Bool
is_tagged xs = all_of (eqb (length xs) state_length ∷ eqb (get_or xs 0 0) tag ∷ eqb (get_or xs 1 0) version ∷ [])

-- a voice's words: the phase is one, and so are the bools and the byte of flags
unfoldable pub is_row : List ℕ → Bool
is_row ws = all_of (leb (get_or ws 0 0) 5 ∷ leb (get_or ws 8 0) 1 ∷ leb (get_or ws 9 0) 0xFF ∷ leb (get_or ws 10 0) 1 ∷ [])

-- what follows the voices: its bools are bools
unfoldable pub is_tail : List ℕ → Bool
is_tail ts = all_of (leb (get_or ts 4 0) 1 ∷ leb (get_or ts 5 0) 1 ∷ leb (get_or ts 9 0) 1 ∷ [])

unfoldable pub are_parts : Parts → Bool
are_parts p = every is_row p.rows && is_tail p.tail

-- every halfword means something: a state stands in the buffer, in range or not
unfoldable pub is_well_formed : List ℕ → Bool
is_well_formed xs = is_tagged xs && are_parts (parts_of xs)

-- number 2 is given for every other buffer
unfoldable pub is_state : List ℕ → Bool
is_state xs = is_well_formed xs && state_ok (state_of xs)

-- the same as a fact, with the length that it says
pub record Formed (xs : List ℕ) : Type 0 where
  pub size : length xs ≡ state_length
  pub form : is_well_formed xs ≡ true

-- a buffer holds a state: the promise of everything that works in place
pub record Holds (xs : List ℕ) (s : State) : Type 0 where
  pub formed : Formed xs
  pub state : state_of xs ≡ s

-- what the type of a lent buffer says: each element has 16 bits
pub record Halfwords (xs : List ℕ) : Type 0 where
  pub each : (i : ℕ) → get_or xs i 0 < 0x10000

-- ---- the buffer of a state

abbrev pub flag_word : Bool → ℕ
flag_word b = cond b 1 0

abbrev pub phase_number : Phase → ℕ
phase_number Idle = 0
phase_number Attack = 1
phase_number Decay = 2
phase_number Sustain = 3
phase_number Release = 4
phase_number Off = 5

-- the halves of a number of 32 bits
abbrev pub low_half : ℕ → ℕ
low_half x = x % 0x10000

abbrev pub high_half : ℕ → ℕ
high_half x = x / 0x10000

-- the words of a voice
unfoldable pub words_of : Voice → List ℕ
words_of v =
    (phase_number v.envelope.phase
    ∷ v.envelope.level
    ∷ low_half v.envelope.wait
    ∷ high_half v.envelope.wait
    ∷ v.position.counter
    ∷ v.position.index
    ∷ v.source.address.0 / 8
    ∷ v.source.repeat.0
    ∷ flag_word v.playing.loaded
    ∷ v.playing.flags
    ∷ flag_word v.ended
    ∷ [])
    ++ list_of (λ k. bits_of 16 (get_or v.playing.samples k (pos 0))) 31

unfoldable pub head_of : State → List ℕ
head_of s = tag ∷ version ∷ low_half s.choices.size ∷ high_half s.choices.size ∷ []

unfoldable pub tail_of : State → List ℕ
tail_of s =
    s.noise.level
    ∷ low_half s.noise.timer
    ∷ high_half s.noise.timer
    ∷ s.control.applied
    ∷ flag_word s.control.latch
    ∷ flag_word s.control.doubt
    ∷ s.capture / 2
    ∷ low_half (s.reverb.place.0 / 2)
    ∷ high_half (s.reverb.place.0 / 2)
    ∷ flag_word s.reverb.right
    ∷ bits_of 16 s.reverb.held.left
    ∷ bits_of 16 s.reverb.held.right
    ∷ low_half s.tick
    ∷ high_half s.tick
    ∷ low_half (s.transfer.0 / 2)
    ∷ high_half (s.transfer.0 / 2)
    ∷ []

-- word w of voice n of a state
abbrev pub word_in : State → ℕ → ℕ → ℕ
word_in s n w = get_or (words_of (get_or s.voices n past_end)) w 0

-- the halfword at a place
unfoldable pub halfword_at : State → ℕ → ℕ
halfword_at s i =
    cond (ltb i registers_at) (get_or (head_of s) i 0)
    (cond (ltb i arrays_at) (get_or s.regs (i - registers_at) 0)
    (cond (ltb i waits_at) (word_in s ((i - arrays_at) % 24) ((i - arrays_at) / 24))
    (cond (ltb i 356) (word_in s ((i - waits_at) / 2) (2 + (i - waits_at) % 2))
    (cond (ltb i samples_at) (word_in s ((i - arrays_at) % 24) ((i - arrays_at) / 24))
    (cond (ltb i tail_at) (word_in s ((i - samples_at) / 31) (11 + (i - samples_at) % 31)) (get_or (tail_of s) (i - tail_at) 0))))))

unfoldable pub buffer_of : State → List ℕ
buffer_of s = list_of (halfword_at s) state_length
