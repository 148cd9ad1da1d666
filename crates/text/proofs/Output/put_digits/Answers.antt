use Rattle.text.proofs.Numbers.{power_first, power_positive, power_next, digits_more, digits_none, glyph_small}
use Rattle.text.proofs.Laws.{left_all}
use borrow.Author.Rules.{rules}
use mathlib.Core.Path.{◌≡◌}
use native.Mathlib.Omega.{arith}
use Prim.Native.Nat.{◌+◌, ◌-◌}
use Rattle.text.proofs.Output.put_digits.Goals as goal

pub loop-i-init : goal.loop-i-init
loop-i-init c = search (power_first, left_all, rules)

pub nonzero_div-n : goal.nonzero_div-n
nonzero_div-n c = search (power_positive, rules)

pub glyph-requires : goal.glyph-requires
glyph-requires c = search glyph_small

pub loop-i-preserved : goal.loop-i-preserved
loop-i-preserved c =
    let d : c.args.k - (c.loop-i._i + 1) ≡ c.args.k - c.loop-i._i - 1 = omega arith in
    rw d (search (power_next, digits_more, rules))

pub returns : goal.returns
returns c = search (digits_none, rules)
