use Rattle.layout.proofs.Tail.{capture_fits, capture_is}
use Rattle.layout.proofs.capture.Goals as goal

pub overflow_mul-result : goal.overflow_mul-result
overflow_mul-result c = search capture_fits

pub returns : goal.returns
returns c = search capture_is
