-- A turn is safe where its reads count; and where they do not, if it writes nothing and its output volume is 0: its output is then 0,
-- whatever it read. Assumes nothing.
use mathlib.Core.Path.{◌≡◌, sym, ◌∙◌}
use mathlib.Core.Bool.{true, false}
use mathlib.Core.List.{List}
use Prim.Native.Nat.{ℕ}
use lib.IntN.{ℤ, pos, *ℤ-zero}
use Rattle.fixed.specs.Range.{In}
use Rattle.fixed.specs.Signed.{signed}
use Rattle.fixed.specs.Arithmetic.{saturated, product_of}
use Rattle.fixed.proofs.Saturation.{saturated_in}
use Rattle.registers.specs.Map.{register_at}
use Rattle.soundram.specs.Program.{bind, get, branch}
use Rattle.soundram.specs.TwoRuns.{Rel, both_done, blind, Safe}
use Rattle.soundram.proofs.Programs.{Always, ends, always_any, always_bind, Reads, reads_done, reads_on, reads_bind}
use Rattle.soundram.proofs.TwoRuns.{rel_bind, safe_done, safe_bind, safe_get, safe_put, safe_branch}
use Rattle.reverb.specs.declared.Area.{Area}
use Rattle.reverb.specs.declared.Turning.{Turning}
use Rattle.reverb.specs.Reverb.{fetch, store, reflection, combs, all_pass, reflections_of, all_passes, turn_of, volume_at, own}

module _ (regs : List ℕ) (area : Area) (t : Turning) where
  -- ---- reads that count

  module _ (c : t.counted ≡ true) where
    counted_fetch : (d : ℤ) → Safe (fetch area t d)
    unfolding fetch
    counted_fetch d = rw c (safe_bind (safe_get _ _) (λ v. safe_done _))

    counted_store : (d x : ℤ) → Safe (store area t d x)
    unfolding store
    counted_store d x = safe_branch t.writes (safe_put _ _) (safe_done tt)

    counted_reflection : (input : ℤ) (m d : ℕ) → Safe (reflection regs area t input m d)
    unfolding reflection
    counted_reflection input m d =
        safe_bind (counted_fetch _) (λ a. safe_bind (counted_fetch _) (λ b. safe_bind (counted_fetch _) (λ c. counted_store _ _)))

    counted_combs : Safe (combs regs area t)
    unfolding combs
    counted_combs =
        safe_bind (counted_fetch _) (λ a. safe_bind (counted_fetch _) (λ b. safe_bind (counted_fetch _) (λ c. safe_bind (counted_fetch _) (λ d. safe_done _))))

    counted_all_pass : (v m d : ℕ) (out : ℤ) → Safe (all_pass regs area t v m d out)
    unfolding all_pass
    counted_all_pass v m d out = safe_bind (counted_fetch _) (λ a. safe_bind (counted_store _ _) (λ _. safe_bind (counted_fetch _) (λ b. safe_done _)))

    pub counted_turn : (input : ℤ) → Safe (turn_of regs area t input)
    unfolding turn_of reflections_of all_passes
    counted_turn input =
        safe_bind (safe_bind (counted_reflection _ _ _) (λ _. counted_reflection _ _ _)) (λ _.
        safe_bind counted_combs (λ a. safe_bind (safe_bind (counted_all_pass _ _ _ a) (λ b. counted_all_pass _ _ _ b)) (λ c. safe_done _)))

  -- ---- reads that do not, and no writes: the values may differ, nothing else does

  abbrev Any : {A : Type 0} → A → A → Type 0
  Any a b = Unit {0}

  module _ (w : t.writes ≡ false) where
    blind_fetch : (d : ℤ) → Rel Any (fetch area t d) (fetch area t d)
    unfolding fetch get bind
    blind_fetch d = blind (λ v w. both_done tt)

    blind_store : (d x y : ℤ) → Rel Any (store area t d x) (store area t d y)
    unfolding store branch
    blind_store d x y = rw w (both_done tt)

    blind_reflection : (x y : ℤ) (m d : ℕ) → Rel Any (reflection regs area t x m d) (reflection regs area t y m d)
    unfolding reflection
    blind_reflection x y m d =
        rel_bind (blind_fetch _) (λ a a' _. rel_bind (blind_fetch _) (λ b b' _. rel_bind (blind_fetch _) (λ c c' _. blind_store _ _ _)))

    blind_combs : Rel Any (combs regs area t) (combs regs area t)
    unfolding combs
    blind_combs =
        rel_bind (blind_fetch _) (λ a a' _. rel_bind (blind_fetch _) (λ b b' _. rel_bind (blind_fetch _) (λ c c' _. rel_bind (blind_fetch _) (λ d d' _. both_done tt))))

    blind_all_pass : (v m d : ℕ) (x y : ℤ) → Rel Any (all_pass regs area t v m d x) (all_pass regs area t v m d y)
    unfolding all_pass
    blind_all_pass v m d x y = rel_bind (blind_fetch _) (λ a a' _. rel_bind (blind_store _ _ _) (λ _ _ _. rel_bind (blind_fetch _) (λ b b' _. both_done tt)))

    -- an output volume of 0
    silent : (z : ℤ) → register_at regs (own regs area t 0x184) ≡ 0 → saturated (product_of z (volume_at regs (own regs area t 0x184))) ≡ pos 0
    unfolding saturated product_of volume_at signed
    silent z e = rw (e, *ℤ-zero z)

    pub blind_turn : (input : ℤ) → register_at regs (own regs area t 0x184) ≡ 0 → Safe (turn_of regs area t input)
    unfolding turn_of reflections_of all_passes
    blind_turn input e =
        rel_bind (rel_bind (blind_reflection _ _ _ _) (λ _ _ _. blind_reflection _ _ _ _)) (λ _ _ _.
        rel_bind blind_combs (λ a a' _. rel_bind (rel_bind (blind_all_pass _ _ _ a a') (λ b b' _. blind_all_pass _ _ _ b b')) (λ c c' _.
        both_done (silent c e ∙ sym (silent c' e)))))

    -- the output is then 0
    pub silent_turn : (input : ℤ) → register_at regs (own regs area t 0x184) ≡ 0 → Always (λ (out : ℤ). out ≡ pos 0) (turn_of regs area t input)
    unfolding turn_of
    silent_turn input e =
        always_bind (always_any _) (λ _ _. always_bind (always_any _) (λ a _. always_bind (always_any _) (λ c _. ends (silent c e))))

    -- and nothing is written
    reads_fetch : (d : ℤ) → Reads (fetch area t d)
    unfolding fetch get bind
    reads_fetch d = reads_on (λ v. reads_done)

    reads_store : (d x : ℤ) → Reads (store area t d x)
    unfolding store branch
    reads_store d x = rw w reads_done

    reads_reflection : (x : ℤ) (m d : ℕ) → Reads (reflection regs area t x m d)
    unfolding reflection
    reads_reflection x m d = reads_bind (reads_fetch _) (λ a. reads_bind (reads_fetch _) (λ b. reads_bind (reads_fetch _) (λ c. reads_store _ _)))

    reads_combs : Reads (combs regs area t)
    unfolding combs
    reads_combs = reads_bind (reads_fetch _) (λ a. reads_bind (reads_fetch _) (λ b. reads_bind (reads_fetch _) (λ c. reads_bind (reads_fetch _) (λ d. reads_done))))

    reads_all_pass : (v m d : ℕ) (x : ℤ) → Reads (all_pass regs area t v m d x)
    unfolding all_pass
    reads_all_pass v m d x = reads_bind (reads_fetch _) (λ a. reads_bind (reads_store _ _) (λ _. reads_bind (reads_fetch _) (λ b. reads_done)))

    pub reads_turn : (input : ℤ) → Reads (turn_of regs area t input)
    unfolding turn_of reflections_of all_passes
    reads_turn input =
        reads_bind (reads_bind (reads_reflection _ _ _) (λ _. reads_reflection _ _ _)) (λ _.
        reads_bind reads_combs (λ a. reads_bind (reads_bind (reads_all_pass _ _ _ a) (λ b. reads_all_pass _ _ _ b)) (λ c. reads_done)))

  -- ---- the output is one of 16 bits

  pub turn_in : (input : ℤ) → Always (In 0x8000 0x7FFF) (turn_of regs area t input)
  unfolding turn_of
  turn_in input =
      always_bind (always_any _) (λ _ _. always_bind (always_any _) (λ a _. always_bind (always_any _) (λ c _. ends (saturated_in _))))
