use Prim.Native.Nat.{◌*◌}
use lib.IntN.{ℤ}
use mir.Syntax.{w32}
use Rattle.fixed.specs.Range.{In}
use Rattle.fixed.proofs.Number.{Num, arg_in, fit, add, need, hold, is}
use Rattle.voices.specs.Voices.{joined_of}
use Rattle.voices_mix.proofs.join.Goals as goal

-- a side's sum
abbrev sum : {a b : ℤ} → In (23 * 0x8000) (23 * 0x8000) a → In 0x8000 0x8000 b → Num
sum i j = add (arg_in {w = w32} (fit i tt) i) (arg_in {w = w32} (fit j tt) j)

pub overflow_add-result : goal.overflow_add-result
overflow_add-result c = let p = c.requires in need (sum p.0.left p.1.left) tt

pub overflow_add-result-2 : goal.overflow_add-result-2
overflow_add-result-2 c = let p = c.requires in need (sum p.0.right p.1.right) tt

pub returns : goal.returns
unfolding joined_of
returns c =
    let p = c.requires in
    rw (is (hold w32 (sum p.0.left p.1.left) tt), is (hold w32 (sum p.0.right p.1.right) tt))
