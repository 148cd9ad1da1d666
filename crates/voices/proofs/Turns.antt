-- The voices one after the other. Assumes nothing.
use mathlib.Core.Path.{◌≡◌, refl, sym, ap, subst, ◌∙◌}
use mathlib.Core.List.{List}
use Prim.Native.Nat.{ℕ, zero, suc, ◌+◌, ◌≤◌, ◌<◌}
use native.Mathlib.Decide.{ℕ_discrete}
use native.Mathlib.Numerals.{add-one}
use native.Mathlib.Omega.{arith}
use lib.ListN.{length, get_or, set, length-set}
use lib.Seq.{get_or-set_same, get_or-set_other}
use lib.IntN.{ℤ, pos}
use Rattle.soundram.specs.declared.Reader.{Reader}
use Rattle.soundram.specs.Address.{Sized}
use Rattle.soundram.specs.Program.{Mem, Does, repeat}
use Rattle.soundram.specs.TwoRuns.{Safe}
use Rattle.soundram.proofs.Programs.{Always, ends, always_bind, does_done, does_give, does_bind, repeat_none, repeat_more}
use Rattle.soundram.proofs.TwoRuns.{safe_done, safe_bind, safe_repeat}
use Rattle.voice.specs.declared.Voice.{Voice}
use Rattle.voice.specs.declared.Settings.{Settings}
use Rattle.voice.specs.Voice.{tick_of}
use Rattle.voice.specs.Range.{InRange}
use Rattle.voice.proofs.Range.{tick_in, tick_range}
use Rattle.voice.proofs.Safe.{safe_tick}
use Rattle.voices.specs.declared.Sums.{Sums}
use Rattle.voices.specs.Voices.{settings_of, added_of, no_sums, mixed_of, One, turn_of, Bank, past_end, voice_at, AllIn}

-- p are the settings, b the amplitude below and a the voice's own as the calls have them
pub turn_does : (size : ℕ) (regs : List ℕ) (level n : ℕ) (v : Voice) (s : Sums) {p : Settings} {b a x : ℤ} {w : Voice} {t : Sums} {m o : Mem} → p ≡ settings_of regs n
    → b ≡ s.below → Does (tick_of (Reader.Voice n) size p b level v) m (record { voice = w; amplitude = a }) o → x ≡ a → t ≡ added_of regs n x s
    → Does (turn_of size regs level n v s) m (record { voice = w; sums = t }) o
unfolding turn_of
turn_does size regs level n v s {m} {o} p b d x e = does_bind _ (rw (p, b) at d) (does_give o (rw (e, x)))

turn_in : {size : ℕ} (regs : List ℕ) (level n : ℕ) (v : Voice) (s : Sums) → Sized size → InRange size v → Always (λ (o : One). InRange size o.voice) (turn_of size regs level n v s)
unfolding turn_of
turn_in regs level n v s z r = always_bind (tick_in (Reader.Voice n) (settings_of regs n) s.below level v z r) (λ t q. ends q)

pub voice_does : (size : ℕ) (regs : List ℕ) (level n : ℕ) (vs : List Voice) (s : Sums) {w : Voice} {t : Sums} {m o : Mem}
    → Does (turn_of size regs level n (get_or vs n past_end) s) m (record { voice = w; sums = t }) o
    → Does (voice_at size regs level n (record { voices = vs; sums = s })) m (record { voices = set vs n w; sums = t }) o
unfolding voice_at
voice_does size regs level n vs s {o} d = does_bind _ d (does_done _ o)

pub all_set : {size : ℕ} (vs : List Voice) (n : ℕ) {w : Voice} → AllIn size vs → length vs ≡ 24 → n < 24 → InRange size w → AllIn size (set vs n w)
all_set {size} vs n {w} a l h r =
    record {
      each = λ k p. elim (ℕ_discrete k n) [
        | yes e ↦ subst (λ (i : ℕ). InRange size (get_or (set vs n w) i past_end)) (sym e) (rw (get_or-set_same vs n w past_end (omega arith)) r)
        | no ne ↦ rw (get_or-set_other vs n k w past_end ne) (a.each k p)
      ];
    }

-- ---- the sums of the amplitudes, as they come

mixed_kept : (regs : List ℕ) (hs : List ℤ) (n : ℕ) (a : ℤ) (k : ℕ) → k ≤ n → mixed_of regs (set hs n a) k ≡ mixed_of regs hs k
unfolding mixed_of
mixed_kept regs hs n a zero h = refl
mixed_kept regs hs n a (suc k) h =
    ap (λ (x : ℤ). added_of regs k x (mixed_of regs (set hs n a) k)) (get_or-set_other hs n k a (pos 0) (other h))
    ∙ ap (added_of regs k (get_or hs k (pos 0))) (mixed_kept regs hs n a k (omega arith))
  where
    other : suc k ≤ n → k ≡ n → ⊥
    other h e = omega arith

mixed_more : (regs : List ℕ) (hs : List ℤ) (n : ℕ) (a : ℤ) → length hs ≡ 24 → n < 24 → mixed_of regs (set hs n a) (n + 1) ≡ added_of regs n a (mixed_of regs hs n)
unfolding mixed_of
mixed_more regs hs n a l h = rw (add-one n, get_or-set_same hs n a (pos 0) (omega arith), mixed_kept regs hs n a n (omega arith))

-- n voices have played: vs are the voices, hs their amplitudes, b is the last
pub record Play (size : ℕ) (regs : List ℕ) (level : ℕ) (vs₀ : List Voice) (m₀ : Mem) (n : ℕ) (vs : List Voice) (hs : List ℤ) (b : ℤ) (m : Mem) : Type 0 where
  pub few : n ≤ 24
  pub voices : length vs ≡ 24
  pub amplitudes : length hs ≡ 24
  pub all : AllIn size vs
  pub below : (mixed_of regs hs n).below ≡ b
  pub does : Does (repeat (voice_at size regs level) n (record { voices = vs₀; sums = no_sums })) m₀ (record { voices = vs; sums = mixed_of regs hs n }) m

module _ {size : ℕ} {regs : List ℕ} {level : ℕ} where
  pub play_none : (vs : List Voice) (hs : List ℤ) (m : Mem) → length vs ≡ 24 → length hs ≡ 24 → AllIn size vs → Play size regs level vs m 0 vs hs (pos 0) m
  unfolding mixed_of no_sums
  play_none vs hs m l k a = record { few = omega arith; voices = l; amplitudes = k; all = a; below = refl; does = repeat_none _ _ _ }

  module _ {vs₀ : List Voice} {m₀ : Mem} {n : ℕ} {vs : List Voice} {hs : List ℤ} {b : ℤ} {m : Mem} (z : Sized size) (p : Play size regs level vs₀ m₀ n vs hs b m) (h : n < 24) where
    -- x is the amplitude as it is kept
    pub play_more : {s : Settings} {w : Voice} {a x : ℤ} {o : Mem} → s ≡ settings_of regs n
        → Does (tick_of (Reader.Voice n) size s b level (get_or vs n past_end)) m (record { voice = w; amplitude = a }) o → x ≡ a
        → Play size regs level vs₀ m₀ (n + 1) (set vs n w) (set hs n x) x o
    unfolding added_of
    play_more {x} e d q =
        let s = mixed_more regs hs n x p.amplitudes h in
        let r = tick_range _ _ _ _ _ _ d z (p.all.each n h) in
        record {
          few = omega arith;
          voices = length-set vs n _ ∙ p.voices;
          amplitudes = length-set hs n x ∙ p.amplitudes;
          all = all_set vs n p.all p.voices h r;
          below = rw s;
          does = repeat_more _ n _ _ _ p.does (voice_does size regs level n vs _ (turn_does size regs level n _ _ e (sym p.below) d q s));
        }

  pub play_all : {vs₀ : List Voice} {m₀ : Mem} {n : ℕ} {vs : List Voice} {hs : List ℤ} {b : ℤ} {m : Mem} → Play size regs level vs₀ m₀ n vs hs b m → 24 ≤ n
      → Does (repeat (voice_at size regs level) 24 (record { voices = vs₀; sums = no_sums })) m₀ (record { voices = vs; sums = mixed_of regs hs 24 }) m
  play_all {vs₀} {m₀} {n} {vs} {hs} {m} p h =
      let e : n ≡ 24 = omega (arith, p.few) in
      subst
      (λ (k : ℕ). Does (repeat (voice_at size regs level) k (record { voices = vs₀; sums = no_sums })) m₀ (record { voices = vs; sums = mixed_of regs hs k }) m) e
      p.does

-- ---- the voices' programs are safe, and keep them in range

safe_turn : (size : ℕ) (regs : List ℕ) (level n : ℕ) (v : Voice) (s : Sums) → Safe (turn_of size regs level n v s)
unfolding turn_of
safe_turn size regs level n v s = safe_bind (safe_tick (Reader.Voice n) size (settings_of regs n) s.below level v) (λ t. safe_done _)

safe_voice : (size : ℕ) (regs : List ℕ) (level n : ℕ) (b : Bank) → Safe (voice_at size regs level n b)
unfolding voice_at
safe_voice size regs level n b = safe_bind (safe_turn size regs level n (get_or b.voices n past_end) b.sums) (λ o. safe_done _)

pub safe_voices : (size : ℕ) (regs : List ℕ) (level n : ℕ) (b : Bank) → Safe (repeat (voice_at size regs level) n b)
safe_voices size regs level n b = safe_repeat (voice_at size regs level) (safe_voice size regs level) n b

pub record BankIn (size : ℕ) (b : Bank) : Type 0 where
  pub all : AllIn size b.voices
  pub count : length b.voices ≡ 24

voice_in_lem : {size : ℕ} (regs : List ℕ) (level n : ℕ) (b : Bank) → Sized size → n < 24 → BankIn size b → Always (BankIn size) (voice_at size regs level n b)
unfolding voice_at
voice_in_lem regs level n b z h i =
    always_bind (turn_in regs level n (get_or b.voices n past_end) b.sums z (i.all.each n h))
    (λ o r. ends (record { all = all_set b.voices n i.all i.count h r; count = length-set b.voices n o.voice ∙ i.count }))

pub voices_in : {size : ℕ} (regs : List ℕ) (level n : ℕ) (b : Bank) → Sized size → n ≤ 24 → BankIn size b → Always (BankIn size) (repeat (voice_at size regs level) n b)
unfolding repeat
voices_in regs level zero b z h i = ends i
voices_in regs level (suc n) b z h i = always_bind (voices_in regs level n b z (omega arith) i) (λ c j. voice_in_lem regs level n c z (omega arith) j)
