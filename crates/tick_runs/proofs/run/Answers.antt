use mathlib.Core.Path.{refl, sym, ◌∙◌}
use native.Mathlib.Omega.{arith}
use Rattle.tick_runs.proofs.Ticks.{running_none, running_all, running_more, running_end}
use Rattle.tick_runs.proofs.run.Goals as goal

pub begin-g-requires : goal.begin-g-requires
begin-g-requires c = (c.requires.0, c.requires.1, c.registers-regs.ensures)

pub loop-k-init : goal.loop-k-init
loop-k-init c = running_none _ _ _ _ _ _ c.requires.0 c.requires.1 c.requires.2 c.begin-g.ensures

pub play_all-p-requires : goal.play_all-p-requires
play_all-p-requires c =
    let p = c.loop-k.invariant in
    (c.steps-steps.ensures, p.holds.formed, running_all p c.size-size.ensures, rw c.size-size.ensures p.lent)

pub finish-g-requires : goal.finish-g-requires
finish-g-requires c =
    let p = c.loop-k.invariant in
    let h = c.loop-k-test.true in
    let e = p.len in
    let r = c.registers-regs.ensures in
    let s = c.size-size.ensures in
    (rw s p.lent, p.range.capture, rw (s, r) p.range.place, omega arith, c.volumes-volumes.ensures)

pub loop-k-preserved : goal.loop-k-preserved
loop-k-preserved c =
    running_more c.loop-k.invariant c.loop-k-test.true c.size-size.ensures c.registers-regs.ensures (rw c.new-all.ensures at c.play_all-p.ensures) c.finish-g.ensures

pub end-requires : goal.end-requires
end-requires c = let p = c.loop-k.invariant in (p.holds.formed, p.range.capture.even, p.range.place.even)

pub shape_of-ram : goal.shape_of-ram
shape_of-ram c = let p = c.loop-k.invariant in p.lent.ram_size ∙ sym c.requires.2.ram_size

pub shape_of-marks : goal.shape_of-marks
shape_of-marks c = let p = c.loop-k.invariant in (omega (arith, p.lent.marks_size, c.requires.2.marks_size))

pub shape_of-out : goal.shape_of-out
shape_of-out c = c.loop-k.invariant.len

pub returns : goal.returns
returns c = running_end c.loop-k.invariant c.loop-k-test.false refl c.end.ensures
