use Rattle.std.proofs.Common.{rules}
use Rattle.text.proofs.Numbers.{minus_puts, plus_puts}
use Rattle.text.specs.Text.{signed_text}
use Rattle.text.proofs.Output.put_signed.Goals as goal
use Rattle.text.proofs.Output.put_signed.Goals.{then-x-lt0, else-x-lt0}

pub returns : goal.returns
unfolding signed_text
returns c =
    elim c.if-x-lt0.branch [ then-x-lt0 w ↦ search (minus_puts, rules) | else-x-lt0 w ↦ search (plus_puts, rules) ]
