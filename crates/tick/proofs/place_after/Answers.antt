use Rattle.tick.proofs.Parts.{place_stays, place_wraps, place_moves}
use Rattle.tick.proofs.place_after.Goals as goal

pub returns-then-not-right : goal.returns-then-not-right
returns-then-not-right c = search place_stays

pub returns-then-place-size : goal.returns-then-place-size
returns-then-place-size c = search place_wraps

pub returns : goal.returns
returns c = search place_moves
