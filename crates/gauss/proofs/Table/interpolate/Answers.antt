use mathlib.Core.Path.{◌≡◌, ◌∙◌, ap}
use Prim.Native.Nat.{ℕ, ◌+◌, ◌-◌}
use lib.IntN.{ℤ}
use mir.Syntax.{w16, w32}
use mir.Val.{SFits, to_z, of_z}
use mir.Facts.{to_z-of_z}
use Rattle.fixed.specs.Range.{In}
use Rattle.fixed.proofs.Parts.{of_fits}
use Rattle.fixed.proofs.Number.{Num, res_in, need, is, hold, add, sharp}
use Rattle.gauss.specs.Gauss.{tap_of, interpolated_of}
use Rattle.gauss.proofs.Rule.{fits16}
use Rattle.gauss.proofs.Table.interpolate.Goals as goal

-- a tap of a parameter, which a call is handed as it is read back from its bits
abbrev at : {r s : ℤ} (k : ℕ) → SFits w16 s → (r ≡ tap_of k (to_z w16 (of_z w16 s))) × In 0x59B3 0x59B2 r → Num
at k f e = res_in w32 (e.0 ∙ ap (tap_of k) (to_z-of_z f)) e.1 tt

abbrev two : goal.After-tap-2 → Num
two c =
    let i = c.args.i in
    let f = c.ranges in
    add (at (0xFF - i) f.oldest c.tap.ensures) (at (0x1FF - i) f.older c.tap-2.ensures)

abbrev three : goal.After-tap-3 → Num
three c = add (hold w32 (two c.before) tt) (at (0x100 + c.args.i) c.ranges.old c.tap-3.ensures)

abbrev four : goal.After-tap-4 → Num
four c = add (hold w32 (three c.before) tt) (at c.args.i c.ranges.new c.tap-4.ensures)

inside : (c : goal.After-tap-4) → SFits w16 (four c).val
unfolding interpolated_of
inside c =
    fits16 c.args.i c.ranges.i.fits c.ranges.oldest c.ranges.older c.ranges.old c.ranges.new

abbrev out : goal.After-tap-4 → Num
out c = sharp (hold w32 (four c) tt) (of_fits w16 (four c).val (inside c))

pub overflow_add-sum : goal.overflow_add-sum
overflow_add-sum c = need (two c) tt

pub overflow_add-sum-2 : goal.overflow_add-sum-2
overflow_add-sum-2 c = need (three c) tt

pub overflow_add-sum-3 : goal.overflow_add-sum-3
overflow_add-sum-3 c = need (four c) tt

pub overflow_cast-result : goal.overflow_cast-result
overflow_cast-result c = need (out c) tt

pub returns : goal.returns
unfolding interpolated_of
returns c = is (hold w16 (out c) tt)
