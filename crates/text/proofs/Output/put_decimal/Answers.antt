use Rattle.text.proofs.Numbers.{power_of, power_positive, power_next, idle_more, decimal_all, decimal_power, trim_more, decimal_puts}
use borrow.Author.Rules.{rules}
use Rattle.text.proofs.Output.put_decimal.Goals as goal

pub loop-k-init : goal.loop-k-init
loop-k-init c = search (decimal_all, decimal_power, rules)

pub nonzero_div-n : goal.nonzero_div-n
nonzero_div-n c = search (power_positive, rules)

pub loop-k-preserved : goal.loop-k-preserved
loop-k-preserved c = search (idle_more, power_next, trim_more, rules)

pub put_digits-requires : goal.put_digits-requires
put_digits-requires c = search (power_of, rules)

pub returns : goal.returns
returns c = search decimal_puts
