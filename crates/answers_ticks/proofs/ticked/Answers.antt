use Rattle.answers_ticks.proofs.Laws.{line_puts}
use Rattle.answers_ticks.proofs.ticked.Goals as goal

pub returns : goal.returns
returns g c =
    let e = g.met.S.Sample.line_is c.args.t.number c.args.t.tick c.args.t.left c.args.t.right c.args.t.irq c.args.t.doubt c.args.t.after in
    line_puts e (rw c.LETTER.ensures at c.tick_start.ensures) c.pair_part.ensures c.end_part.ensures
