use Rattle.text.proofs.Numbers.{hex_power_lem}
use borrow.Author.Rules.{rules}
use Rattle.text.proofs.Output.put_hex.Goals as goal

pub put_digits-requires : goal.put_digits-requires
put_digits-requires c = search (hex_power_lem, rules)
