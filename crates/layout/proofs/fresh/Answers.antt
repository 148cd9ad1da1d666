use Rattle.layout.proofs.Made.{fresh_made}
use Rattle.layout.proofs.fresh.Goals as goal

pub returns : goal.returns
returns c = fresh_made _ c.begin.ensures c.put_register.ensures c.put_noise.ensures c.put_fresh.ensures
