-- A tick's stages, from what the code's parts give. Primed names are values as the calls have them. Assumes nothing.
use Rattle.std.proofs.Common.{◌≡◌, ℕ, ◌+◌, ◌*◌, ◌%◌, ◌^◌, ◌≤◌, Bool, true, false, cond, not, ◌&&◌, eqb, List, length, get_or, set, ℤ, pos, ◌+ℤ◌, sym, ap, ◌∙◌, arith, eq-eqb, ne_eqb}
use borrow.Author.Tests.{not-true, not-false}
use lib.ListN.{get_or-eq_default}
use Rattle.fixed.specs.Bits.{bit}
use Rattle.fixed.specs.Signed.{signed}
use Rattle.fixed.specs.Arithmetic.{saturated, product_of, volume_of}
use Rattle.fixed.proofs.Parts.{add_is, eq_parts}
use Rattle.noise.specs.declared.Noise.{Noise}
use Rattle.noise.specs.Noise.{ticked_of}
use Rattle.soundram.specs.declared.ByteAddress.{ByteAddress}
use Rattle.soundram.specs.Address.{address_of, Sized}
use Rattle.soundram.specs.declared.Watch.{Watch}
use Rattle.soundram.specs.Program.{Prog, done, bind, Mem, run, Does, repeat}
use Rattle.soundram.proofs.Programs.{run_bind, does_give, does_bind}
use Rattle.registers.specs.Map.{register_at}
use Rattle.voice.specs.declared.Voice.{Voice}
use Rattle.voices.specs.declared.Sums.{Sums}
use Rattle.voices.specs.Voices.{no_sums, mixed_of, voice_at}
use Rattle.capture.specs.Capture.{capture_of, capture_next}
use Rattle.reverb.specs.declared.Turning.{Turning}
use Rattle.reverb.specs.Reverb.{AreaIn, side_of, turn_of}
use Rattle.stereo.specs.declared.Stereo.{Stereo}
use Rattle.chip.specs.declared.Reverb.{Reverb}
use Rattle.chip.specs.State.{State}
use Rattle.chip.specs.Range.{PlaceIn}
use Rattle.tick.specs.declared.Rest.{Rest}
use Rattle.tick.specs.declared.Going.{Going}
use Rattle.tick.specs.Tick.{cd_of, mix_of, pair_of, turning_of, input_of, entering_of, place_after, held_of, reverb_after, reverb_of, Closing, close_of, tick_of}
use Rattle.tick.specs.Run.{join_of, Finishes}

-- ---- mix: b is the bit of SPUCNT

module _ (regs : List ℕ) (offset : ℕ) (x : ℤ) {b : Bool} (e : b ≡ bit 0 (register_at regs 0x1AA)) where
  pub cd_on : {r : ℤ} → b ≡ true → r ≡ product_of x (signed 16 (register_at regs offset)) → r ≡ cd_of regs offset x
  unfolding cd_of
  cd_on t p = rw (← e, t, p)

  pub cd_off : b ≡ false → pos 0 ≡ cd_of regs offset x
  unfolding cd_of
  cd_off t = rw (← e, t)

pub heard_on : (on : Bool) (total held : ℤ) {r : ℤ} → on ≡ true → r ≡ saturated total +ℤ held → r ≡ cond on (saturated total +ℤ held) (pos 0)
heard_on on total held t p = rw (t, p)

pub heard_off : (on : Bool) (total held : ℤ) → on ≡ false → pos 0 ≡ cond on (saturated total +ℤ held) (pos 0)
heard_off on total held t = rw t

pub mix_as : (regs : List ℕ) (total held cd : ℤ) (main : ℕ) {b : Bool} {total' held' r : ℤ} → b ≡ bit 14 (register_at regs 0x1AA) → total' ≡ total → held' ≡ held
    → r ≡ saturated (product_of (saturated (cond b (saturated total' +ℤ held') (pos 0) +ℤ cd)) (volume_of (register_at regs main))) → r ≡ mix_of regs total held cd main
unfolding mix_of
mix_as regs total held cd main eb et eh er = rw (er, eh, et, eb)

pub side_as : (regs : List ℕ) (total held x : ℤ) (main offset : ℕ) {total' held' cd x' r : ℤ} → r ≡ mix_of regs total' held' cd main → total' ≡ total → held' ≡ held → cd ≡ cd_of regs offset x' → x' ≡ x
    → r ≡ mix_of regs total held (cd_of regs offset x) main
side_as regs total held x main offset er et eh ec ex = rw (er, et, eh, ec, ex)

pub pair_as : (regs : List ℕ) (h : Stereo ℤ) (s : Sums) (left right : ℤ) {l r : ℤ} → l ≡ mix_of regs s.dry.left h.left (cd_of regs 0x1B0 left) 0x180
    → r ≡ mix_of regs s.dry.right h.right (cd_of regs 0x1B2 right) 0x182 → record { left = l; right = r } ≡ pair_of regs h s left right
unfolding pair_of
pair_as regs h s left right el er = rw (el, er)

-- ---- reverb

pub turning_as : (regs : List ℕ) (right : Bool) {on : Bool} {s v : ℕ} → on ≡ bit 7 (register_at regs 0x1AA) → s ≡ side_of right → v ≡ register_at regs (0x184 + s)
    → record { right = right; counted = not (not on && eqb v 0); writes = on } ≡ turning_of regs right
unfolding turning_of
turning_as regs right eo es ev = rw (ev, es, eo)

module _ (regs : List ℕ) (wet cd : ℤ) {b : Bool} (e : b ≡ bit 2 (register_at regs 0x1AA)) where
  pub input_with : {r : ℤ} → b ≡ true → r ≡ saturated (wet +ℤ cd) → r ≡ input_of regs wet cd
  unfolding input_of
  input_with t p = rw (← e, t, p)

  pub input_without : {r : ℤ} → b ≡ false → r ≡ saturated wet → r ≡ input_of regs wet cd
  unfolding input_of
  input_without t p = rw (← e, t, p, plus_none wet)
    where
      plus_none : (z : ℤ) → z +ℤ pos 0 ≡ z
      plus_none z = let s = add_is z (pos 0) in eq_parts _ _ (omega arith)

module _ (regs : List ℕ) (b : Bool) (s : Sums) (left right : ℤ) {c x w r : ℤ} where
  pub entering_right : b ≡ true → x ≡ right → c ≡ cd_of regs 0x1B2 x → w ≡ s.wet.right → r ≡ input_of regs w c → r ≡ entering_of regs b s left right
  unfolding entering_of
  entering_right t ex ec ew er = rw (t, er, ew, ec, ex)

  pub entering_left : b ≡ false → x ≡ left → c ≡ cd_of regs 0x1B0 x → w ≡ s.wet.left → r ≡ input_of regs w c → r ≡ entering_of regs b s left right
  unfolding entering_of
  entering_left t ex ec ew er = rw (t, er, ew, ec, ex)

module _ (size base : ℕ) (right : Bool) (place : ℕ) where
  pub place_stays : not right ≡ true → place ≡ place_after size base right place
  unfolding place_after
  place_stays t = rw (not-true right t)

  pub place_wraps : not right ≡ false → place + 2 ≡ size → base ≡ place_after size base right place
  unfolding place_after
  place_wraps t e = rw (not-false right t, eq-eqb (place + 2) size e)

  pub place_moves : not right ≡ false → (place + 2 ≡ size → ⊥) → place + 2 ≡ place_after size base right place
  unfolding place_after
  place_moves t e = rw (not-false right t, ne_eqb (place + 2) size e)

module _ (right : Bool) (h : Stereo ℤ) (out : ℤ) {a b : ℤ} where
  pub hold_right : right ≡ true → a ≡ h.left → b ≡ out → record { left = a; right = b } ≡ held_of right h out
  unfolding held_of
  hold_right t p q = rw (t, p, q)

  pub hold_left : right ≡ false → a ≡ out → b ≡ h.right → record { left = a; right = b } ≡ held_of right h out
  unfolding held_of
  hold_left t p q = rw (t, p, q)

pub after_as : (size base : ℕ) (r : Reverb) (out : ℤ) {h : Stereo ℤ} {p : ℕ} {o : ℤ} → o ≡ out → h ≡ held_of r.right r.held o
    → p ≡ place_after size base r.right r.place.0 → record { place = record { 0 = p }; right = not r.right; held = h } ≡ reverb_after size base r out
unfolding reverb_after
after_as size base r out eo eh ep = rw (eh, ep, eo)

pub area_in : {size base place : ℕ} {b : ByteAddress} → Sized size → PlaceIn size base place → b.0 ≡ base → AreaIn (record { size = size; base = b.0; place = place })
area_in z p e = let l = p.least in let m = p.most in let k = z.least in record { least = omega arith; below = omega arith; most = z.most }

-- b is the base, t how the turn is made, x what enters, o what leaves
pub turn_does : (regs : List ℕ) (size : ℕ) (r : Reverb) (s : Sums) (left right : ℤ) {u : ℕ} {b : ByteAddress} {t : Turning} {x x' o o' l' r' : ℤ} {q : Reverb} {m n : Mem} → u ≡ register_at regs 0x1A2
    → b ≡ address_of size (record { 0 = u }) → t ≡ turning_of regs r.right → x ≡ entering_of regs r.right s l' r' → l' ≡ left → r' ≡ right → x' ≡ x
    → Does (turn_of regs (record { size = size; base = b.0; place = r.place.0 }) t x') m o n → q ≡ reverb_after size b.0 r o' → o' ≡ o
    → Does (reverb_of regs size r s left right) m q n
unfolding reverb_of
turn_does regs size r s left right {n} eu eb et ex el er ex' d eq eo = does_bind _ (rw (et, ex', ex, el, er, eb, eu) at d) (does_give n (rw (eq, eo, eb, eu)))

-- ---- the end of a tick

-- s are the sums, c is SPUCNT, t the tick number as the calls have them
pub close_does : (regs : List ℕ) (size : ℕ) (r : Rest) (z : Noise) (sums : Sums) (left right : ℤ) {s : Sums} {c q t : ℕ} {v : Reverb} {p : Stereo ℤ} {l₁ r₁ l₂ r₂ l₃ r₃ : ℤ} {k m n : Mem} → s ≡ sums
    → l₁ ≡ left → r₁ ≡ right → Does (capture_of r.capture l₁ r₁ s.captured) k tt m
    → l₂ ≡ left → r₂ ≡ right → Does (reverb_of regs size r.reverb s l₂ r₂) m v n
    → l₃ ≡ left → r₃ ≡ right → p ≡ pair_of regs r.reverb.held s l₃ r₃ → c ≡ register_at regs 0x1AA → q ≡ capture_next r.capture → t ≡ (r.tick + 1) % 2 ^ 32
    → Does (close_of regs size r z sums left right) k
    (record { pair = p; rest = record { noise = z; applied = c % 0x40; capture = q; reverb = v; tick = t } }) n
unfolding close_of
close_does regs size r z sums left right {n} es el er dc el' er' dr el'' er'' ep ec eq et =
    does_bind _ (rw (el, er, es) at dc) (does_bind _ (rw (el', er', es) at dr) (does_give n (rw (ep, el'', er'', es, ec, eq, et))))

-- a program's answer, carried further
carried : {A B C D : Type 0} (p : Prog A) (q : A → Prog B) (f : B → C) (g : C → D) {m n : Mem} {c : C} → Does (bind p (λ a. bind (q a) (λ b. done (f b)))) m c n
    → Does (bind p (λ a. bind (q a) (λ b. done (g (f b))))) m (g c) n
unfolding run
carried p q f g {m} d =
    record {
      ran =
          run_bind p (λ a. bind (q a) (λ b. done (g (f b)))) m ∙ run_bind (q (run p m).answer) (λ b. done (g (f b))) (run p m).mem
          ∙ ap (λ r. record { answer = g r.answer; mem = r.mem })
          (sym (run_bind (q (run p m).answer) (λ b. done (f b)) (run p m).mem) ∙ sym (run_bind p (λ a. bind (q a) (λ b. done (f b))) m) ∙ d.ran);
    }

-- the whole tick: the voices, then its end
pub tick_does : (s : State) (vs : List Voice) (r : Rest) (w : Watch) (left right : ℤ) {z : Noise} {us : List Voice} {sums : Sums} {p : Stereo ℤ} {q : Rest} {j k n : Mem}
    → z ≡ ticked_of r.noise (register_at s.regs 0x1AA)
    → Does (repeat (voice_at s.choices.size s.regs z.level) 24 (record { voices = vs; sums = no_sums })) j (record { voices = us; sums = sums }) k
    → Does (close_of s.regs s.choices.size r z sums left right) k (record { pair = p; rest = q }) n
    → Does (tick_of (join_of s vs r w) left right) j (record { answer = p; state = join_of s us q w }) n
unfolding tick_of close_of
tick_does s vs r w left right {z} {us} {sums} ez dv dc =
    does_bind _ (rw ez at dv) (carried _ _ _ (λ (c : Closing). record { answer = c.pair; state = join_of s us c.rest w }) (rw ez at dc))

-- past the CD's end there is silence
pub cd_past : (cd : List ℤ) (i : ℕ) → length cd ≤ i → pos 0 ≡ get_or cd i (pos 0)
cd_past cd i h = sym (get_or-eq_default cd (pos 0) h)

-- l, r are the CD's pair, c is SPUCNT as the calls have them
pub finish_does : (regs : List ℕ) (size : ℕ) (g : Going) (hs cd : List ℤ) (k : ℕ) (before : List ℤ) (h : Going) {m m' : Mem} {after : List ℤ} {l r : ℤ} {p : Stereo ℤ} {c : ℕ} → l ≡ get_or cd (k * 2) (pos 0)
    → r ≡ get_or cd (k * 2 + 1) (pos 0) → Does (close_of regs size g.rest g.noise (mixed_of regs hs 24) l r) m (record { pair = p; rest = h.rest }) m'
    → after ≡ set (set before (k * 2) p.left) (k * 2 + 1) p.right → c ≡ register_at regs 0x1AA → h.noise ≡ ticked_of h.rest.noise c
    → h.irq ≡ cond (h.watch.latch && not g.watch.latch) k g.irq → h.doubt ≡ cond (h.watch.doubt && not g.watch.doubt) k g.doubt
    → Finishes regs size g hs cd k m before h m' after
finish_does regs size g hs cd k before h {p} el er d eo ec ez ei ed =
    record { pair = p; closes = rw (el, er) at d; out = eo; noise = rw (← ec) ez; irq = ei; doubt = ed }
