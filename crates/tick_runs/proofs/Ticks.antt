-- A run of ticks, as its loop goes through it. Assumes nothing.
use mathlib.Core.Path.{◌≡◌, refl, sym, ap, ◌∙◌}
use mathlib.Core.Bool.{Bool}
use mathlib.Core.List.{List, [], ◌++◌}
use Prim.Native.Nat.{ℕ, ◌+◌, ◌*◌, ◌/◌, ◌≤◌, ◌<◌}
use native.Mathlib.Omega.{arith}
use lib.ListN.{length, set, length-set}
use lib.IntN.{ℤ}
use Rattle.noise.specs.Noise.{ticked_of as noise_of}
use Rattle.soundram.specs.declared.Watch.{Watch}
use Rattle.soundram.specs.Address.{Lent}
use Rattle.soundram.specs.Program.{mem_of, Access, trace}
use Rattle.soundram.specs.Calls.{Times, start_of, times_of}
use Rattle.soundram.proofs.Programs.{does_kept, always_does, lent_after}
use Rattle.soundram.proofs.Times.{times_none, times_more, time_does}
use Rattle.registers.specs.Map.{register_at}
use Rattle.voice.specs.declared.Voice.{Voice}
use Rattle.voices.specs.Voices.{AllIn}
use Rattle.chip.specs.State.{State, with_voices, watch_of, watched_of}
use Rattle.chip.specs.Range.{InRange}
use Rattle.tick.specs.declared.Rest.{Rest}
use Rattle.tick.specs.declared.Going.{Going}
use Rattle.tick.specs.Run.{join_of, begin_of, Finishes}
use Rattle.tick.proofs.Parts.{tick_does}
use Rattle.tick.proofs.Range.{tick_in}
use Rattle.layout.specs.Layout.{state_of, Formed, Holds}
use Rattle.layout.proofs.Laws.{self_holds, holds_as}
use Rattle.spu.specs.Step.{tick_into, chip}
use Rattle.spu.proofs.Runs.{into_does}
use Rattle.tick_runs.specs.Run.{PlaysAll, Runs}

-- what was watched is no part of a state's ranges
joined_in : (s : State) (vs : List Voice) (r : Rest) (v w : Watch) → InRange (join_of s vs r v) → InRange (join_of s vs r w)
joined_in s vs r v w i =
    record {
      shaped = record { regs = i.shaped.regs; voices = i.shaped.voices };
      size = i.size;
      voices = i.voices;
      capture = i.capture;
      place = i.place;
      transfer = i.transfer;
      noise = i.noise;
    }

watch_of_lem : (w : Watch) {a : Bool} {h : ℕ} → w.armed ≡ a → w.halfword ≡ h → w ≡ record { armed = a; halfword = h; latch = w.latch; doubt = w.doubt }
watch_of_lem w p q = rw (← p, ← q)

kept_watch : (s : State) (vs us : List Voice) (r q : Rest) {v x : Watch} → x.armed ≡ v.armed → x.halfword ≡ v.halfword → v ≡ watch_of (join_of s vs r v) → x ≡ watch_of (join_of s us q x)
unfolding watch_of
kept_watch s vs us r q {x} a h e = watch_of_lem x (a ∙ ap (λ (u : Watch). u.armed) e) (h ∙ ap (λ (u : Watch). u.halfword) e)

-- k of count ticks are done, and the buffer holds their voices
pub record Running (s : State) (cd : List ℤ) (ram₀ marks₀ : List ℕ) (out₀ : List ℤ) (count k : ℕ) (ys : List ℕ) (g : Going) (ram marks : List ℕ) (out : List ℤ) : Type 0 where
  pub voices : List Voice
  pub seen : List Access
  pub few : k ≤ count
  pub ran : times_of chip (tick_into cd) k (start_of count s ram₀ marks₀ out₀) ≡ record {
    state = join_of s voices g.rest g.watch;
    ram = ram;
    marks = marks;
    out = out;
    irq = g.irq;
    doubt = g.doubt;
    accesses = seen;
  }
  pub range : InRange (join_of s voices g.rest g.watch)
  pub watching : g.watch ≡ watch_of (join_of s voices g.rest g.watch)
  pub noise : g.noise ≡ noise_of g.rest.noise (register_at s.regs 0x1AA)
  pub lent : Lent s.choices.size ram marks
  pub len : length out ≡ length out₀
  pub holds : Holds ys (with_voices s voices)

pub running_none : (xs : List ℕ) (cd : List ℤ) (ram marks : List ℕ) (out : List ℤ) (count : ℕ) {g : Going} → Formed xs → InRange (state_of xs) → Lent (state_of xs).choices.size ram marks
    → g ≡ begin_of (state_of xs) count → Running (state_of xs) cd ram marks out count 0 xs g ram marks out
unfolding watch_of
running_none xs cd ram marks out count f i l e =
    rw e (record {
      voices = (state_of xs).voices;
      seen = [];
      few = omega arith;
      ran = times_none chip (tick_into cd) _;
      range = i;
      watching = refl;
      noise = refl;
      lent = l;
      len = refl;
      holds = self_holds xs f;
    })

module _ {s : State} {cd : List ℤ} {ram₀ marks₀ : List ℕ} {out₀ : List ℤ} {count k : ℕ} {ys : List ℕ} {g : Going} {ram marks : List ℕ} {out : List ℤ}
    (p : Running s cd ram₀ marks₀ out₀ count k ys g ram marks out) where
  pub running_all : {size : ℕ} → size ≡ s.choices.size → AllIn size (state_of ys).voices
  running_all e = rw (e, p.holds.state) p.range.voices

  -- the end of tick k; size and regs are those of the code
  pub running_more : {size : ℕ} {regs : List ℕ} {hs : List ℤ} {zs : List ℕ} {h : Going} {w : Watch} {ram' marks' : List ℕ} {out' : List ℤ} → k < count → size ≡ s.choices.size → regs ≡ s.regs
      → PlaysAll size regs g.noise.level ys (mem_of ram marks g.watch) hs zs (mem_of ram marks w)
      → Finishes regs size g hs cd k (mem_of ram marks w) out h (mem_of ram' marks' h.watch) out' → Running s cd ram₀ marks₀ out₀ count (k + 1) zs h ram' marks' out'
  unfolding watched_of
  running_more {zs} {h} {ram'} {marks'} {out'} c es er a f =
      let q = rw (es, er) at f in
      let v = rw (es, er, p.holds.state) at a.does in
      let t = tick_does s p.voices g.rest g.watch _ _ p.noise v q.closes in
      let kept = does_kept t in
      record {
        voices = a.voices;
        seen = p.seen ++ trace (tick_into cd k (record { answer = out; state = join_of s p.voices g.rest g.watch })) (mem_of ram marks g.watch);
        few = omega arith;
        ran = times_more chip (tick_into cd) k (start_of count s ram₀ marks₀ out₀) p.ran (time_does chip (tick_into cd) k _ p.watching (into_does cd k _ t)) ∙ rw (q.out, q.irq, q.doubt);
        range = joined_in s a.voices h.rest g.watch h.watch (always_does (tick_in _ _ p.range) t);
        watching = kept_watch s p.voices a.voices g.rest h.rest kept.armed kept.halfword p.watching;
        noise = q.noise;
        lent = lent_after t p.lent;
        len = ap length q.out ∙ length-set (set out (k * 2) q.pair.left) (k * 2 + 1) q.pair.right ∙ length-set out (k * 2) q.pair.left ∙ p.len;
        holds = holds_as a.holds (rw p.holds.state);
      }

  pub running_end : {zs : List ℕ} → count ≤ k → count ≡ length out₀ / 2 → Holds zs (join_of (state_of ys) (state_of ys).voices g.rest g.watch) → Runs s ram₀ marks₀ cd out₀ g.irq g.doubt zs ram marks out
  running_end {zs} h e o =
      let l : k ≡ count = omega (arith, p.few) in
      let r = rw (l, e) at p.ran in
      record {
        holds = holds_as o (rw p.holds.state (sym (ap (λ (t : Times State). t.state) r)));
        ram = sym (ap (λ (t : Times State). t.ram) r);
        marks = sym (ap (λ (t : Times State). t.marks) r);
        out = sym (ap (λ (t : Times State). t.out) r);
        irq = sym (ap (λ (t : Times State). t.irq) r);
        doubt = sym (ap (λ (t : Times State). t.doubt) r);
      }
