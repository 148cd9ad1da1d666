use Rattle.layout.proofs.Tail.{place_holds}
use Rattle.layout.proofs.put_place.Goals as goal

pub returns : goal.returns
returns c = search place_holds
