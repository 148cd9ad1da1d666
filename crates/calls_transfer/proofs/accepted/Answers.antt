use mathlib.Core.Path.{refl}
use Rattle.calls_transfer.proofs.Transfers.{put_both}
use Rattle.calls_transfer.proofs.accepted.Goals as goal

pub returns : goal.returns
returns c =
    let s = c.args in
    (refl, put_both _ s.m.value s.m.watch c.put_transfer.ensures c.put_watch.ensures)
