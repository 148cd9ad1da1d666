use mathlib.Core.Path.{◌∙◌}
use lib.IntN.{ℤ, pos}
use borrow.Author.Rules.{rules}
use mir.Syntax.{w16, w32}
use mir.Val.{SFits}
use Rattle.fixed.specs.Range.{In}
use Rattle.fixed.proofs.Number.{Num, arg, arg_in, fit, lit, need, is, range, hold, add, mul, shr}
use Rattle.adpcm.proofs.Laws.{predicted_by}
use Rattle.adpcm.proofs.Coding.predicted.Goals as goal

module _ (old older : ℤ) {f0 f1 : ℤ} (a : SFits w16 old) (b : SFits w16 older) (i : In 0 122 f0) (j : In 60 0 f1) where
  abbrev both : Num
  both = add (hold w32 (mul (hold w32 (arg a) tt) (arg_in (fit {w = w32} i tt) i)) tt) (hold w32 (mul (hold w32 (arg b) tt) (arg_in (fit {w = w32} j tt) j)) tt)

  abbrev sum : Num
  sum = add (hold w32 both tt) (lit (pos 32))

pub overflow_add-result : goal.overflow_add-result
overflow_add-result c =
    let h = c.args.before in
    let s = c.args.self in
    need (both h.old h.older (search rules) (search rules) s.f0_in s.f1_in) tt

pub overflow_add-result-2 : goal.overflow_add-result-2
overflow_add-result-2 c =
    let h = c.args.before in
    let s = c.args.self in
    need (sum h.old h.older (search rules) (search rules) s.f0_in s.f1_in) tt

pub returns : goal.returns
returns c =
    let h = c.args.before in
    let s = c.args.self in
    let r = hold w32 (shr 64 tt (hold w32 (sum h.old h.older (search rules) (search rules) s.f0_in s.f1_in) tt)) tt in
    (is r ∙ predicted_by s.header.filter h.old h.older s.f0_is s.f1_is, range r)
