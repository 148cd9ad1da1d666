use Rattle.register_write.proofs.Work.{not_released, released}
use Rattle.register_write.proofs.release.Goals as goal

pub returns-then-not-goes_off : goal.returns-then-not-goes_off
returns-then-not-goes_off c = search not_released

pub returns : goal.returns
returns c = search released
